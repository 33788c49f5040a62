-- The walk goes on, goes back, and ends.
use Rattle.std.proofs.Common.{◌≡◌, ◌≢◌, ℕ, zero, suc, ◌+◌, ◌-◌, ◌*◌, ◌<◌, List, [], ◌∷◌, ◌++◌, length, sum_by, slice_set, slice_index, get_or, reverse, sym, ap, ◌∙◌, arith, refl, inl, inr, subst, Result, Ok, Err, IfOk}
use Rattle.std.proofs.lemmas.Bool.{cases_lt}
use Rattle.std.proofs.lemmas.List.{get_or-reverse, length-reverse, get_or_default}
use Rattle.std.proofs.lemmas.List.Sums.{sum_by-set}
use Rattle.std.proofs.Math.ListN.{length-set}
use Rattle.machine_model.specs.Edges.{Code, Begins}
use Rattle.flow_graph.specs.declared.walk.Mark.{Mark}
use Rattle.flow_graph.specs.declared.walk.Mark.TheVariants.{New, Open, Done}
use Rattle.flow_graph.specs.Cycles.{IsJoint, IsPath, IsOnCycle}
use Rattle.flow_graph.specs.declared.walk.Way.TheVariants.{To, Back, Finished}
use Rattle.flow_graph.specs.declared.walk.Walked.{Walked}
use Rattle.flow_graph.specs.declared.walk.Walked.TheVariants.{All, Cycle}
use Rattle.refusal.specs.declared.NoMemory.{NoMemory}
use Rattle.flow_graph.specs.Flow.{IsJoined, IsOrder}
use Rattle.flow_graph.specs.Walks.{mark_at, new_mark, IsWalk, IsWay, IsFurther, HasEnded, HasMet}
use Rattle.flow_graph.proofs.Lists.{one_way, at_old, at_new, one_longer, in_none}
use Rattle.flow_graph.proofs.MarkLemmas.{mark_same, mark_other, listed_other, listed_more, listed_less, further, which}
use Rattle.flow_graph.proofs.CodeLemmas.{begins_below}

pub new_open : New ≢ Open
new_open = λ e. cc

pub new_done : New ≢ Done
new_done = λ e. cc

pub open_new : Open ≢ New
open_new = λ e. cc

pub open_done : Open ≢ Done
open_done = λ e. cc

pub done_new : Done ≢ New
done_new = λ e. cc

pub done_open : Done ≢ Open
done_open = λ e. cc

pub marked_so : (m x y : Mark) → m ≡ x → x ≢ y → m ≢ y
marked_so m x y e ne = λ f. ne (sym e ∙ f)

pub joint_same : (code : Code) (p q s t : ℕ) → p ≡ q → s ≡ t → IsJoint code q t → IsJoint code p s
joint_same code p q s t e f j =
    subst (λ (r : ℕ). IsJoint code r s) (sym e) (subst (λ (r : ℕ). IsJoint code q r) (sym f) j)

-- one slot more on the path
pub walk_in : (code : Code) (marks : List Mark) (path done : List ℕ) (next : ℕ) → IsWalk code marks path done → next < length code →
    Begins code next → mark_at marks next ≡ New → ((k : ℕ) → k + 1 ≡ length path → IsJoint code (slice_index path k) next) →
    IsWalk code (slice_set marks next Open) (path ++ next ∷ []) done
walk_in code marks path done next w within begins new joint =
    let lt : next < length marks = omega (arith, w.slots) in
    let long : length (path ++ next ∷ []) ≡ length path + 1 = one_longer path next in
    let sum : sum_by new_mark (slice_set marks next Open) + new_mark (get_or marks next New) ≡ sum_by new_mark marks + 0 =
    sum_by-set new_mark marks next Open New lt in
    let one : new_mark (get_or marks next New) ≡ 1 = ap new_mark new in
    record {
      slots = length-set marks next Open ∙ w.slots;
      begins = λ s met. elim (one_way s next) [
        | inl same ↦ subst (Begins code) (sym same) begins
        | inr ne ↦ w.begins s (λ e. met (mark_other marks next s Open ne ∙ e))
      ];
      walked = listed_more marks Open path next lt w.walked (marked_so (mark_at marks next) New Open new new_open);
      finished = listed_other marks Done Open done next lt w.finished (marked_so (mark_at marks next) New Done new new_done) open_done;
      along = λ k h. elim (cases_lt (k + 1) (length path)) [
        | inl low ↦
            let under : k < length path = omega arith in
            joint_same code _ _ _ _ (at_old path next k under) (at_old path next (k + 1) low) (w.along k low)
        | inr high ↦
            let end : k + 1 ≡ length path = omega arith in
            let under : k < length path = omega arith in
            joint_same code _ _ _ _ (at_old path next k under) (at_new path next (k + 1) end) (joint k end)
      ];
      behind = w.behind;
      room = omega (arith, w.room, sum, one, long);
    }

-- the last slot of the path is done
pub walk_out : (code : Code) (marks : List Mark) (path done : List ℕ) (slot : ℕ) → IsWalk code marks (path ++ slot ∷ []) done →
    slot < length code → ((s : ℕ) → IsJoint code slot s → mark_at marks s ≡ Done) →
    IsWalk code (slice_set marks slot Done) path (done ++ slot ∷ [])
walk_out code marks path done slot w within each =
    let lt : slot < length marks = omega (arith, w.slots) in
    let long : length (path ++ slot ∷ []) ≡ length path + 1 = one_longer path slot in
    let longer : length (done ++ slot ∷ []) ≡ length done + 1 = one_longer done slot in
    let end : length path < length (path ++ slot ∷ []) = omega arith in
    let is : mark_at marks slot ≡ Open = ap (mark_at marks) (sym (at_new path slot (length path) refl)) ∙ w.walked.marked (length path) end in
    let sum : sum_by new_mark (slice_set marks slot Done) + new_mark (get_or marks slot New) ≡ sum_by new_mark marks + 0 =
    sum_by-set new_mark marks slot Done New lt in
    let none : new_mark (get_or marks slot New) ≡ 0 = ap new_mark is in
    record {
      slots = length-set marks slot Done ∙ w.slots;
      begins = λ s met. elim (one_way s slot) [
        | inl same ↦ w.begins s (marked_so (mark_at marks s) Open New (ap (mark_at marks) same ∙ is) open_new)
        | inr ne ↦ w.begins s (λ e. met (mark_other marks slot s Done ne ∙ e))
      ];
      walked = listed_less marks Open Done path slot lt w.walked done_open;
      finished = listed_more marks Done done slot lt w.finished (marked_so (mark_at marks slot) Open Done is open_done);
      along = λ k h.
          let low : k + 1 < length (path ++ slot ∷ []) = omega arith in
          let under : k < length path = omega arith in
          joint_same code _ _ _ _ (sym (at_old path slot k under)) (sym (at_old path slot (k + 1) h)) (w.along k low);
      behind = λ q s h joint. elim (cases_lt q (length done)) [
        | inl low ↦
            let old = w.behind q s low (joint_same code _ _ _ _ (sym (at_old done slot q low)) refl joint) in
            let less : old.0 < q = old.1 in
            (old.0, less, at_old done slot old.0 (omega arith) ∙ old.2)
        | inr high ↦
            let last : q ≡ length done = omega arith in
            let i = w.finished.each s (each s (joint_same code _ _ _ _ (sym (at_new done slot q last)) refl joint)) in
            let less : i.0 < length done = i.1 in
            (i.0, omega arith, at_old done slot i.0 less ∙ i.2)
      ];
      room = omega (arith, w.room, sum, none, long, longer);
    }

-- a path along a list of slots that edges join
pub path_along : (code : Code) (list : List ℕ) (k d m : ℕ) →
    ((place : ℕ) → place + 1 < length list → IsJoint code (slice_index list place) (slice_index list (place + 1))) →
    m ≡ k + d + 1 → m < length list → (path : List ℕ) × IsPath code (slice_index list k) path (slice_index list m)
path_along code list k zero m along e lt =
    let same : m ≡ k + 1 = omega arith in
    let low : k + 1 < length list = omega arith in
    ([], joint_same code _ _ _ _ refl (ap (slice_index list) same) (along k low))
path_along code list k (suc d) m along e lt =
    let same : m ≡ (k + d + 1) + 1 = omega arith in
    let low : (k + d + 1) + 1 < length list = omega arith in
    let under : k + d + 1 < length list = omega arith in
    let before = path_along code list k d (k + d + 1) along refl under in (
      slice_index list (k + d + 1) ∷ before.0,
      (joint_same code _ _ _ _ refl (ap (slice_index list) same) (along (k + d + 1) low), before.1),
    )

-- an edge from the last slot of the path to one of the path closes a cycle
pub cycle_back : (code : Code) (marks : List Mark) (path done : List ℕ) (slot next : ℕ) → IsWalk code marks (path ++ slot ∷ []) done →
    IsJoint code slot next → mark_at marks next ≡ Open → IsOnCycle code next
cycle_back code marks path done slot next w joint is =
    let i = w.walked.each next is in
    let within : i.0 < length (path ++ slot ∷ []) = i.1 in
    let long : length (path ++ slot ∷ []) ≡ length path + 1 = one_longer path slot in
    let end : slice_index (path ++ slot ∷ []) (length path) ≡ slot = at_new path slot (length path) refl in
    elim (cases_lt i.0 (length path)) [
      | inl low ↦
          let d : ℕ = length path - i.0 - 1 in
          let far : length path ≡ i.0 + d + 1 = omega arith in
          let last : length path < length (path ++ slot ∷ []) = omega arith in
          let r = path_along code (path ++ slot ∷ []) i.0 d (length path) w.along far last in (
            slot ∷ r.0,
            (
              joint,
              subst (λ (s : ℕ). IsPath code next r.0 s) end
                  (subst (λ (p : ℕ). IsPath code p r.0 (slice_index (path ++ slot ∷ []) (length path))) i.2 r.1),
            ),
          )
      | inr high ↦
          let last : i.0 ≡ length path = omega arith in
          ([], joint_same code _ _ _ _ (sym i.2 ∙ at_new path slot i.0 last) refl joint)
    ]

-- where all is done, what was done last stands first in an order
pub order_of : (code : Code) (marks : List Mark) (path done : List ℕ) → IsWalk code marks path done → length path ≡ 0 →
    ((s : ℕ) → Begins code s → mark_at marks s ≢ New) → IsOrder code (reverse done)
order_of code marks path done w empty met =
    let long : length (reverse done) ≡ length done = length-reverse done in
    record {
      begins = λ place lt.
          let low : place < length done = omega arith in
          let from : length done - 1 - place < length done = omega arith in
          subst (Begins code) (sym (back place low))
          (w.begins (slice_index done (length done - 1 - place))
          (marked_so (mark_at marks (slice_index done (length done - 1 - place))) Done New (w.finished.marked (length done - 1 - place) from) done_new));
      each = λ slot begins.
          let i = w.finished.each slot (is_done slot (met slot begins)) in
          let low : i.0 < length done = i.1 in
          let from : length done - 1 - i.0 < length done = omega arith in
          let there : length done - 1 - (length done - 1 - i.0) ≡ i.0 = omega arith in
          (length done - 1 - i.0, omega arith, back (length done - 1 - i.0) from ∙ ap (slice_index done) there ∙ i.2);
      once = λ p q h k e.
          let low : p < length done = omega arith in
          let under : q < length done = omega arith in
          let left : length done - 1 - p < length done = omega arith in
          let right : length done - 1 - q < length done = omega arith in
          let same : length done - 1 - p ≡ length done - 1 - q =
          w.finished.once (length done - 1 - p) (length done - 1 - q) left right (sym (back p low) ∙ e ∙ back q under) in
          omega arith;
      onward = λ p q fact h k edge.
          let low : p < length done = omega arith in
          let under : q < length done = omega arith in
          let left : length done - 1 - p < length done = omega arith in
          let right : length done - 1 - q < length done = omega arith in
          let r = w.behind (length done - 1 - p) (slice_index (reverse done) q) left
          (joint_same code _ _ _ _ (sym (back p low)) refl (fact, edge)) in
          let less : r.0 < length done - 1 - p = r.1 in
          let within : r.0 < length done = omega arith in
          let same : r.0 ≡ length done - 1 - q = w.finished.once r.0 (length done - 1 - q) within right (r.2 ∙ back q under) in
          omega arith;
    }
  where
    back : (k : ℕ) → k < length done → slice_index (reverse done) k ≡ slice_index done (length done - 1 - k)
    back k h = get_or-reverse done k 0 h

    is_done : (s : ℕ) → mark_at marks s ≢ New → mark_at marks s ≡ Done
    is_done s ne = elim (which (mark_at marks s)) [
      | inl fresh ↦ absurd (ne fresh)
      | inr met ↦ elim met [
        | inl walked ↦ in_none path s empty (w.walked.each s walked)
        | inr is ↦ is
      ]
    ]

split : (code : Code) (marks : List Mark) (before path done : List ℕ) (slot : ℕ) → IsWalk code marks before done → before ≡ path ++ slot ∷ [] →
    IsWalk code marks (path ++ slot ∷ []) done
split code marks before path done slot w is = subst (λ (list : List ℕ). IsWalk code marks list done) is w

pub to_within : (code : Code) (marks : List Mark) (slot next : ℕ) → IsJoined code → length marks ≡ length code → IsJoint code slot next →
    next < length marks
to_within code marks slot next f len joint =
    let l = f.lands slot joint.0 next joint.1 in
    let lt : next < length code = l.0 in omega arith

-- the last slot of a path is one of the code
pub slot_begins : (code : Code) (marks : List Mark) (before path done : List ℕ) (slot : ℕ) → IsWalk code marks before done →
    before ≡ path ++ slot ∷ [] → Begins code slot
slot_begins code marks before path done slot w is =
    let v = split code marks before path done slot w is in
    let end : length path < length (path ++ slot ∷ []) = omega (arith, one_longer path slot) in
    subst (Begins code) (at_new path slot (length path) refl) (v.begins (slice_index (path ++ slot ∷ []) (length path))
    (marked_so (mark_at marks (slice_index (path ++ slot ∷ []) (length path))) Open New (v.walked.marked (length path) end) open_new))

slot_within : (code : Code) (marks : List Mark) (before path done : List ℕ) (slot : ℕ) → IsWalk code marks before done →
    before ≡ path ++ slot ∷ [] → slot < length code
slot_within code marks before path done slot w is = begins_below code slot (slot_begins code marks before path done slot w is)

pub walk_entered : (code : Code) (marks new : List Mark) (before path later done last : List ℕ) (slot next : ℕ) → IsJoined code →
    IsWalk code marks before done → before ≡ path ++ slot ∷ [] → IsWay code marks slot (To next) → new ≡ slice_set marks next Open →
    later ≡ (path ++ slot ∷ []) ++ next ∷ [] → last ≡ done → IsWalk code new later last
walk_entered code marks new before path later done last slot next f w is way en el ed =
    subst (λ (n : List Mark). IsWalk code n later last) (sym en)
    (subst (λ (l : List ℕ). IsWalk code (slice_set marks next Open) l last) (sym el)
    (subst (λ (d : List ℕ). IsWalk code (slice_set marks next Open) ((path ++ slot ∷ []) ++ next ∷ []) d) (sym ed)
    (walk_in code marks (path ++ slot ∷ []) done next (split code marks before path done slot w is)
    (f.lands slot way.0.0 next way.0.1).0 (f.lands slot way.0.0 next way.0.1).1 way.1
    (λ k e. let last : k ≡ length path = omega (arith, one_longer path slot) in
    joint_same code _ _ _ _ (at_new path slot k last) refl way.0))))

pub smaller_entered : (code : Code) (marks new : List Mark) (before path later done : List ℕ) (slot next : ℕ) → IsJoined code →
    IsWalk code marks before done → before ≡ path ++ slot ∷ [] → IsWay code marks slot (To next) → new ≡ slice_set marks next Open →
    later ≡ (path ++ slot ∷ []) ++ next ∷ [] → 2 * sum_by new_mark new + length later < 2 * sum_by new_mark marks + length before
smaller_entered code marks new before path later done slot next f w is way en el =
    let lt : next < length marks = to_within code marks slot next f w.slots way.0 in
    let sum : sum_by new_mark (slice_set marks next Open) + new_mark (get_or marks next New) ≡ sum_by new_mark marks + 0 =
    sum_by-set new_mark marks next Open New lt in
    let one : new_mark (get_or marks next New) ≡ 1 = ap new_mark way.1 in
    let was : length before ≡ length path + 1 = ap length is ∙ one_longer path slot in
    let long : length later ≡ length (path ++ slot ∷ []) + 1 = ap length el ∙ one_longer (path ++ slot ∷ []) next in
    let same : sum_by new_mark new ≡ sum_by new_mark (slice_set marks next Open) = ap (sum_by new_mark) en in
    omega (arith, one_longer path slot, sum, one, was, long, same)

pub walk_left : (code : Code) (marks new : List Mark) (before path later done last : List ℕ) (slot : ℕ) → IsJoined code →
    IsWalk code marks before done → before ≡ path ++ slot ∷ [] → IsWay code marks slot Finished → new ≡ slice_set marks slot Done →
    later ≡ path → last ≡ done ++ slot ∷ [] → IsWalk code new later last
walk_left code marks new before path later done last slot f w is way en el ed =
    subst (λ (n : List Mark). IsWalk code n later last) (sym en)
    (subst (λ (l : List ℕ). IsWalk code (slice_set marks slot Done) l last) (sym el)
    (subst (λ (d : List ℕ). IsWalk code (slice_set marks slot Done) path d) (sym ed)
    (walk_out code marks path done slot (split code marks before path done slot w is) (slot_within code marks before path done slot w is) way)))

pub slot_marked : (code : Code) (marks : List Mark) (before path done : List ℕ) (slot : ℕ) → IsWalk code marks before done →
    before ≡ path ++ slot ∷ [] → slot < length marks
slot_marked code marks before path done slot w is =
    let lt : slot < length code = slot_within code marks before path done slot w is in omega (arith, w.slots)

pub further_set : (first marks new : List Mark) (t : ℕ) (x : Mark) → IsFurther first marks → t < length marks → x ≢ New →
    new ≡ slice_set marks t x → IsFurther first new
further_set first marks new t x f lt ne e = λ s met. subst (λ (list : List Mark). mark_at list s ≢ New) (sym e) (further marks t x lt ne s (f s met))

pub caught_back : (code : Code) (marks : List Mark) (before path done : List ℕ) (slot next : ℕ) → IsWalk code marks before done →
    before ≡ path ++ slot ∷ [] → IsWay code marks slot (Back next) → IsOnCycle code next
caught_back code marks before path done slot next w is way =
    cycle_back code marks path done slot next (split code marks before path done slot w is) way.0 way.1

-- a walk of one slot
pub walk_started : (code : Code) (marks : List Mark) (path later done : List ℕ) (slot : ℕ) (m : Mark) → IsWalk code marks path done → path ≡ [] →
    Begins code slot → m ≡ get_or marks slot m → m ≡ New → later ≡ path ++ slot ∷ [] → IsWalk code (slice_set marks slot Open) later done
walk_started code marks path later done slot m w empty begins read is el =
    let within : slot < length code = begins_below code slot begins in
    let lt : slot < length marks = omega (arith, w.slots) in
    let none : length path ≡ 0 = ap length empty in
    subst (λ (l : List ℕ). IsWalk code (slice_set marks slot Open) l done) (sym el)
    (walk_in code marks path done slot w within begins (sym (read ∙ get_or_default marks slot m New lt) ∙ is) (λ k e. absurd (omega arith)))

pub met_of : (code : Code) (marks : List Mark) (slot : ℕ) (r : Result Walked NoMemory) → slot < length marks →
    IfOk r (λ walked. HasEnded code (slice_set marks slot Open) walked) → IfOk r (λ walked. HasMet slot walked)
met_of code marks slot (Ok (All walk)) lt h =
    h.2 slot (marked_so (mark_at (slice_set marks slot Open) slot) Open New (mark_same marks slot slot Open lt refl) open_new)
met_of code marks slot (Ok (Cycle met)) lt h = tt
met_of code marks slot (Err e) lt h = tt

pub met_already : (marks : List Mark) (slot : ℕ) (m : Mark) → slot < length marks → m ≡ get_or marks slot m → m ≢ New → mark_at marks slot ≢ New
met_already marks slot m lt read ne = λ e. ne (read ∙ get_or_default marks slot m New lt ∙ e)

pub met_next : (code : Code) (marks new : List Mark) (slot : ℕ) → IsFurther marks new → mark_at new slot ≢ New →
    ((s : ℕ) → s < slot → Begins code s → mark_at marks s ≢ New) → (s : ℕ) → s < slot + 1 → Begins code s → mark_at new s ≢ New
met_next code marks new slot f here below s lt begins = elim (cases_lt s slot) [
  | inl low ↦ f s (below s low begins)
  | inr high ↦
      let same : s ≡ slot = omega arith in
      subst (λ (t : ℕ). mark_at new t ≢ New) (sym same) here
]

-- where no instruction begins there is nothing to meet
pub met_none : (code : Code) (marks : List Mark) (slot : ℕ) → (Begins code slot → ⊥) →
    ((s : ℕ) → s < slot → Begins code s → mark_at marks s ≢ New) → (s : ℕ) → s < slot + 1 → Begins code s → mark_at marks s ≢ New
met_none code marks slot none below s lt begins = elim (cases_lt s slot) [
  | inl low ↦ below s low begins
  | inr high ↦
      let same : s ≡ slot = omega arith in
      absurd (none (subst (Begins code) same begins))
]
