-- Pieces come to the run of the definition.
use Rattle.std.proofs.Common.{◌≡◌, ℕ, zero, suc, ◌+◌, ◌-◌, ◌*◌, ◌<◌, ◌≤◌, List, [], ◌∷◌, ◌++◌, refl, sym, subst, ap, ◌∙◌, true}
use Rattle.machine_model.specs.Machine.{State, Effect, Continues, Ends, Spawns, Calls, Traps, answered, effect}
use Rattle.machine_model.specs.Alone.{EndsWithin, Follows, no_entries}
use Rattle.task_trees.specs.Solo.{entering}
use Rattle.verifier.specs.Checked.{Checked, program_of}
use Rattle.interpreter.specs.Representation.{RepresentsState, lent}
use Rattle.virtual_machine.specs.Executes.{RunsOn}
use Rattle.yielding.specs.declared.event.Question.{Question}
use Rattle.yielding.specs.declared.event.PieceEnd.{PieceEnd}
use Rattle.yielding.specs.declared.event.PieceEnd.TheVariants.{AtLimit, Asks, Ended}
use Rattle.yielding.specs.declared.phase.Phase.{Phase}
use Rattle.yielding.specs.declared.phase.Phase.TheVariants as phase
use Rattle.yielding.specs.Answering.{may_answer_by}
use Rattle.yielding.specs.Asking.{Exchange, FollowsEffect as Asked, AsksWithin, EndsAsking, AnswersCalls, RunsAsking}
use Rattle.yielding.specs.Leading.{IsAnswered}
use Rattle.yielding.specs.Standing.{PausedTask, waits}
use Rattle.yielding.specs.Pieces.{GoesPiece}
use Rattle.yielding.specs.Going.{HasGone}
use Rattle.yielding.proofs.LeadLemmas.{leads_ends}

-- The task stands for a state, from which it leads, with this answer where it waits for one, to wherever it leads from its start, with these calls on the way.
pub record IsOnWay (p : Checked) (start : State) (asked : List Exchange) (task : PausedTask) (bytes : List ℕ) (answer : ℕ) : Type 0 where
  pub now : State
  pub stands : RepresentsState p task.frame (lent bytes) task.credit now
  pub leads : (first : State) (later : List Exchange) (r0 : ℕ) (last : State) → IsAnswered (program_of p) (waits task.phase) answer now first →
      EndsAsking (program_of p) first later r0 last → EndsAsking (program_of p) start (asked ++ later) r0 last

-- a state that no call waits at leads on by itself
ready_leads : (p : Checked) (start : State) (asked : List Exchange) (at : Phase) (answer : ℕ) (now : State) → at ≡ phase.Ready →
    ((later : List Exchange) (r0 : ℕ) (last : State) → EndsAsking (program_of p) now later r0 last → EndsAsking (program_of p) start (asked ++ later) r0 last) →
    (first : State) (later : List Exchange) (r0 : ℕ) (last : State) → IsAnswered (program_of p) (waits at) answer now first →
    EndsAsking (program_of p) first later r0 last → EndsAsking (program_of p) start (asked ++ later) r0 last
ready_leads p start asked at answer now is leads first later r0 last begun ends =
    let same : first ≡ now = subst (λ (a : Phase). IsAnswered (program_of p) (waits a) answer now first) is begun in
    leads later r0 last (subst (λ (s : State). EndsAsking (program_of p) s later r0 last) same ends)

-- a task at its start
pub way_start : (p : Checked) (start : State) (task : PausedTask) (bytes : List ℕ) (answer : ℕ) → task.phase ≡ phase.Ready →
    RepresentsState p task.frame (lent bytes) task.credit start → IsOnWay p start [] task bytes answer
way_start p start task bytes answer is stands = record {
  now = start;
  stands = stands;
  leads = ready_leads p start [] task.phase answer start is (λ later r0 last ends. ends);
}

abbrev caller_in : State → Effect → State
caller_in other (Continues next) = other
caller_in other (Ends r0 last) = other
caller_in other (Spawns birth taken refused) = other
caller_in other (Calls helper arguments caller) = caller
caller_in other (Traps trap) = other

-- a call that is answered so leads on
call_leads : (p : Checked) (now : State) (question : Question) (caller : State) (answer : ℕ) →
    effect (program_of p) no_entries now ≡ Calls question.helper question.arguments caller →
    (first : State) (later : List Exchange) (r0 : ℕ) (last : State) → IsAnswered (program_of p) true answer now first →
    EndsAsking (program_of p) first later r0 last →
    EndsAsking (program_of p) now (record { question = question; answer = answer } ∷ later) r0 last
call_leads p now question caller answer is first later r0 last begun ends =
    let same : caller ≡ begun.2 = ap (caller_in caller) (sym is ∙ begun.3) in
    let first_is : first ≡ answered caller answer = begun.4 ∙ ap (λ (s : State). answered s answer) (sym same) in
    let on : EndsAsking (program_of p) (answered caller answer) later r0 last = subst (λ (s : State). EndsAsking (program_of p) s later r0 last) first_is ends in
    (suc on.0, rw is (answer, later, refl, on.1))

ends_at : (p : Checked) (s : State) (r0 : ℕ) (last : State) → effect (program_of p) no_entries s ≡ Ends r0 last →
    EndsAsking (program_of p) s [] r0 last
ends_at p s r0 last is = (1, rw is (refl, refl, refl))

-- one more behind the calls so far
one_more : (xs ys : List Exchange) (x : Exchange) → xs ++ (x ∷ ys) ≡ (xs ++ x ∷ []) ++ ys
one_more [] ys x = refl
one_more (y ∷ xs) ys x = ap (λ (zs : List Exchange). y ∷ zs) (one_more xs ys x)

none_more : (xs : List Exchange) → xs ++ [] ≡ xs
none_more [] = refl
none_more (x ∷ xs) = ap (λ (zs : List Exchange). x ∷ zs) (none_more xs)

module _ (p : Checked) (start : State) (asked : List Exchange) (task next : PausedTask) (bytes left : List ℕ) (answer limit : ℕ)
    (is : task.program ≡ p) (way : IsOnWay p start asked task bytes answer) where
  -- the piece, over the program
  gone_on : (e : PieceEnd) → HasGone task answer limit bytes e next left →
      GoesPiece p (waits task.phase) answer limit task.frame bytes task.credit e next.frame left next.credit
  gone_on e gone =
      subst (λ (c : Checked). GoesPiece c (waits task.phase) answer limit task.frame bytes task.credit e next.frame left next.credit) is gone.goes

  -- a piece that ran as many instructions as it may
  pub way_limit : (word : ℕ) → HasGone task answer limit bytes AtLimit next left → IsOnWay p start asked next left word
  way_limit word gone =
      let piece = gone_on AtLimit gone way.now way.stands in
      record {
        now = piece.2;
        stands = piece.4;
        leads = ready_leads p start asked next.phase word piece.2 gone.phase
            (λ later r0 last ends. way.leads piece.0 later r0 last piece.1 (leads_ends (program_of p) limit piece.0 piece.2 later r0 last piece.3 ends));
      }

  -- a piece that stopped at a call, which is answered
  pub way_asks : (question : Question) (word : ℕ) → HasGone task answer limit bytes (Asks question) next left →
      IsOnWay p start (asked ++ record { question = question; answer = word } ∷ []) next left word
  way_asks question word gone =
      let piece = gone_on (Asks question) gone way.now way.stands in
      let stop = piece.3 in
      let e : Exchange = record { question = question; answer = word } in
      record {
        now = piece.2;
        stands = piece.4;
        leads = λ first later r0 last begun ends.
            let waiting : IsAnswered (program_of p) true word piece.2 first =
            subst (λ (a : Phase). IsAnswered (program_of p) (waits a) word piece.2 first) gone.phase begun in
            let on = call_leads p piece.2 question stop.3 word stop.4 first later r0 last waiting ends in
            subst (λ (xs : List Exchange). EndsAsking (program_of p) start xs r0 last) (one_more asked later e)
            (way.leads piece.0 (e ∷ later) r0 last piece.1 (leads_ends (program_of p) stop.0 piece.0 piece.2 (e ∷ later) r0 last stop.2 on));
      }

  -- a piece with which the task ended
  pub way_ends : {F : Type 0} (step : F → Question → ℕ → F → Type 0) (f g : F) → AnswersCalls step f asked g → (arg credit : ℕ) (old : List ℕ) →
      start ≡ entering arg credit old → (r0 : ℕ) → HasGone task answer limit bytes (Ended r0) next left →
      RunsAsking p step f arg credit old r0 next.credit.used left g
  way_ends step f g answers arg credit old starts r0 gone =
      let piece = gone_on (Ended r0) gone way.now way.stands in
      let stop = piece.3 in
      let on = way.leads piece.0 [] r0 piece.2 piece.1
      (leads_ends (program_of p) stop.0 piece.0 stop.2 [] r0 piece.2 stop.3 (ends_at p stop.2 r0 piece.2 stop.4)) in
      record {
        asked = asked;
        last = piece.2;
        ends = subst (λ (s : State). EndsAsking (program_of p) s asked r0 piece.2) starts
            (subst (λ (xs : List Exchange). EndsAsking (program_of p) start xs r0 piece.2) (none_more asked) on);
        uses = piece.4.1;
        leaves = piece.4.0;
        answers = answers;
      }

-- ---- the function

-- it was called once more
pub answers_more : {F : Type 0} (step : F → Question → ℕ → F → Type 0) (f g h : F) (asked : List Exchange) (question : Question) (word : ℕ) →
    AnswersCalls step f asked g → step g question word h → AnswersCalls step f (asked ++ record { question = question; answer = word } ∷ []) h
answers_more {F = F} step f g h [] question word same did = (h, subst (λ (k : F). step k question word h) same did, refl)
answers_more step f g h (e ∷ asked) question word went did = (went.0, went.1, answers_more step went.0 g h asked question word went.2 did)

-- what follows where the function answers is what follows where it may answer so
alone_on : {F : Type 0} (step : F → Question → ℕ → F → Type 0) (p : Checked) (n : ℕ) →
    ((asked : List Exchange) (f g : F) (r0 : ℕ) (last s : State) → AnswersCalls step f asked g → AsksWithin (program_of p) r0 last n asked s →
    EndsWithin (program_of p) (may_answer_by step) r0 last n s) →
    (asked : List Exchange) (f g : F) (r0 : ℕ) (last : State) (e : Effect) → AnswersCalls step f asked g →
    Asked (AsksWithin (program_of p) r0 last n) asked r0 last e →
    Follows (may_answer_by step) (EndsWithin (program_of p) (may_answer_by step) r0 last n) r0 last e
alone_on step p n less asked f g r0 last (Continues next) answers follows = less asked f g r0 last next answers follows
alone_on step p n less asked f g r0 last (Ends word state) answers follows = (follows.1, follows.2)
alone_on step p n less asked f g r0 last (Spawns birth taken refused) answers follows = absurd follows
alone_on {F = F} step p n less asked f g r0 last (Calls helper arguments caller) answers follows =
    let e : Exchange = record { question = record { helper = helper; arguments = arguments }; answer = follows.0 } in
    let all : AnswersCalls step f (e ∷ follows.1) g = subst (λ (xs : List Exchange). AnswersCalls step f xs g) follows.2 answers in
    (follows.0, (f, all.0, all.1), less follows.1 all.0 g r0 last (answered caller follows.0) all.2 follows.3)
alone_on step p n less asked f g r0 last (Traps trap) answers follows = absurd follows

alone_within : {F : Type 0} (step : F → Question → ℕ → F → Type 0) (p : Checked) (n : ℕ) (asked : List Exchange) (f g : F) (r0 : ℕ) (last s : State) →
    AnswersCalls step f asked g → AsksWithin (program_of p) r0 last n asked s → EndsWithin (program_of p) (may_answer_by step) r0 last n s
alone_within step p zero asked f g r0 last s answers within = absurd within
alone_within step p (suc n) asked f g r0 last s answers within =
    alone_on step p n (λ asked f g r0 last s answers within. alone_within step p n asked f g r0 last s answers within)
    asked f g r0 last (effect (program_of p) no_entries s) answers within

-- such a run is one of the definition
pub runs_alone : {F : Type 0} (p : Checked) (step : F → Question → ℕ → F → Type 0) (f g : F) (arg credit : ℕ) (bytes : List ℕ) (r0 used : ℕ)
    (left : List ℕ) → RunsAsking p step f arg credit bytes r0 used left g → RunsOn p (may_answer_by step) arg credit bytes r0 used left
runs_alone p step f g arg credit bytes r0 used left run = record {
  last = run.last;
  ends = (run.ends.0, alone_within step p run.ends.0 run.asked f g r0 run.last (entering arg credit bytes) run.answers run.ends.1);
  uses = run.uses;
  leaves = run.leaves;
}

-- ---- each piece leaves less to run
