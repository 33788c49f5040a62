-- Two desks at which the same happens are alike, and tell the same.
use Rattle.std.proofs.Common.{◌≡◌, ◌≢◌, ℕ, List, [], ◌∷◌, ◌++◌, Option, Result, refl, sym, ap, subst, ◌∙◌, inl, inr}
use Rattle.credit_book.specs.declared.book.Report.{Report}
use Rattle.credit_book.specs.declared.board.Progress.{Progress}
use Rattle.job_core.specs.Admitted.{AdmittedJob}
use Rattle.accounts.specs.Limits.{keeps_all}
use Rattle.accounts.proofs.LastJob.{all_kept}
use Rattle.accounts.specs.Ledgers.{Ledger, Finishes}
use Rattle.accounts.specs.declared.jobs.JobEntry.{JobEntry}
use Rattle.sessions.specs.Grammar.{Asked}
use Rattle.sessions.specs.Replies.{frame_of, frame_or_refusal, reply_data}
use Rattle.sessions.specs.declared.reply.Reply.{Reply}
use Rattle.streams.specs.Answering.{Replies}
use Rattle.shared_desk.specs.Histories.{HistoryEntry}
use Rattle.tenant_desks.specs.PlacedRunners.{starts_placed, looks_placed}
use Rattle.tenant_desks.specs.Answering.{AnswersAlone, for_place, refusal_frame}
use Rattle.tenant_desks.specs.Alone.{DeskEvent, was_asked, has_ended, starts_to, HappensAlone, none_yet, one_ended, one_asked}
use Rattle.tenant_desks.specs.Events.{EachTwo, HappensAlike, IsToldAlike}
use Rattle.tenant_desks.proofs.AlikeDesks.{AlikeDesks, AlikeEntries, AlikeJobs, finishes_alike}
use Rattle.tenant_desks.proofs.AlikeReplies.{OneAdmission, HadMemory, AlikeReplies, carried, replies_alike}

-- ---- two lists that are longer by one

module _ (P : DeskEvent → DeskEvent → Type 0) where
  each_pushed : (xs ys : List DeskEvent) (x y : DeskEvent) → EachTwo P xs ys → P x y → EachTwo P (xs ++ x ∷ []) (ys ++ y ∷ [])
  each_pushed [] [] x y each p = (p, tt)
  each_pushed [] (w ∷ ys) x y each p = absurd each
  each_pushed (v ∷ xs) [] x y each p = absurd each
  each_pushed (v ∷ xs) (w ∷ ys) x y each p = (each.0, each_pushed xs ys x y each.1 p)

  none_and_more : (ys : List DeskEvent) (y : DeskEvent) → EachTwo P [] (ys ++ y ∷ []) → ⊥
  none_and_more [] y each = each
  none_and_more (w ∷ ys) y each = each

  more_and_none : (xs : List DeskEvent) (x : DeskEvent) → EachTwo P (xs ++ x ∷ []) [] → ⊥
  more_and_none [] x each = each
  more_and_none (v ∷ xs) x each = each

  each_last : (xs ys : List DeskEvent) (x y : DeskEvent) → EachTwo P (xs ++ x ∷ []) (ys ++ y ∷ []) → EachTwo P xs ys × P x y
  each_last [] [] x y each = (tt, each.0)
  each_last [] (w ∷ ys) x y each = absurd (none_and_more ys y each.1)
  each_last (v ∷ xs) [] x y each = absurd (more_and_none xs x each.1)
  each_last (v ∷ xs) (w ∷ ys) x y each = let later = each_last xs ys x y each.1 in ((each.0, later.0), later.1)

-- ---- one event

framed_alike : (told : Reply) (reply : List ℕ) → reply ≡ frame_of told → reply ≡ frame_or_refusal (reply_data told)
unfolding frame_of
framed_alike told reply frame = frame

had_memory : (told : Reply) (reply : List ℕ) → reply ≡ frame_of told → reply ≢ refusal_frame 99 → HadMemory told
unfolding frame_of
had_memory told reply frame apart same = apart (frame ∙ ap frame_or_refusal same)

module _ {P : Type 0} (starts : P → ℕ → AdmittedJob → Result (Unit {0}) ℕ → P → Type 0) (looks : P → ℕ → Progress → P → Type 0) (one : OneAdmission) where
  answers_alike : (d e d' e' : Ledger) (x y : HistoryEntry) (first second : Result (Unit {0}) ℕ) (r s r' s' : P) → AlikeDesks d e → AnswersAlone (starts_to first starts) looks keeps_all r r' x.query.asked x.reply d d'
      → AnswersAlone (starts_to second starts) looks keeps_all s s' y.query.asked y.reply e e' → HappensAlike (was_asked x first) (was_asked y second) → AlikeDesks d' e' × IsToldAlike (was_asked x first) (was_asked y second)
  answers_alike d e d' e' x y first second r s r' s' a xs ys same =
      let T : Result Asked ℕ × Result (Unit {0}) ℕ → Type 0 = λ p. Replies (starts_to p.1 starts) looks d r p.0 (reply_data xs.told) xs.mid r' in
      let both = replies_alike starts looks one d e r s y.query.asked xs.told ys.told xs.mid ys.mid r' s' second a (subst T (λ k. (same.0 k, same.1 k)) xs.replies) ys.replies
      (had_memory xs.told x.reply xs.frame same.2) (had_memory ys.told y.reply ys.frame same.3) in
      (carried xs.mid ys.mid d' e' (all_kept xs.mid d' xs.keeps) (all_kept ys.mid e' ys.keeps) both.0, told both.1)
    where
      told : AlikeReplies xs.told ys.told → IsToldAlike (was_asked x first) (was_asked y second)
      told (inl is) = inl (framed_alike xs.told x.reply xs.frame ∙ ap frame_or_refusal is ∙ sym (framed_alike ys.told y.reply ys.frame))
      told (inr t) = inr (
        (t.0.complete, t.0.returned, t.0.spent, framed_alike xs.told x.reply xs.frame ∙ ap frame_or_refusal t.2),
        (t.1.complete, t.1.returned, t.1.spent, framed_alike ys.told y.reply ys.frame ∙ ap frame_or_refusal t.3),
      )

-- ---- all that happens

same_entry : (x : JobEntry) → AlikeEntries x x
same_entry x = record { tenant = refl; credit = refl; standing = refl }

same_entries : (xs : List JobEntry) → AlikeJobs xs xs
same_entries [] = tt
same_entries (x ∷ xs) = (same_entry x, same_entries xs)

same_desks : (d : Ledger) → AlikeDesks d d
same_desks d = record { grants = λ q. refl; past = λ q. refl; jobs = same_entries d.jobs }

module _ {R : Type 0} (starts : R → ℕ → AdmittedJob → Result (Unit {0}) ℕ → R → Type 0) (looks : R → ℕ → Progress → R → Type 0) (takes : R → Option (ℕ × Result Report ℕ) → R → Type 0) (one : OneAdmission) where
  all_alike : (place : ℕ) (begun : Ledger) (first second : List DeskEvent) (d e : Ledger) → HappensAlone starts looks takes place keeps_all begun first d → HappensAlone starts looks takes place keeps_all begun second e → EachTwo HappensAlike first second
      → AlikeDesks d e × EachTwo IsToldAlike first second
  all_alike place begun first second d e none_yet none_yet same = (same_desks begun, tt)
  all_alike place begun first second d e none_yet (one_ended ys c' e' n p r' s' hs step' ends') same = absurd (none_and_more HappensAlike ys _ same)
  all_alike place begun first second d e none_yet (one_asked ys c' e' y q r' s' hs alone') same = absurd (none_and_more HappensAlike ys _ same)
  all_alike place begun first second d e (one_ended xs c d' m o r s h step ends) none_yet same = absurd (more_and_none HappensAlike xs _ same)
  all_alike place begun first second d e (one_asked xs c d' x p r s h alone) none_yet same = absurd (more_and_none HappensAlike xs _ same)
  all_alike place begun first second d e (one_ended xs c d' m o r s h step ends) (one_asked ys c' e' y q r' s' hs alone') same = absurd (each_last HappensAlike xs ys _ _ same).1
  all_alike place begun first second d e (one_asked xs c d' x p r s h alone) (one_ended ys c' e' n q r' s' hs step' ends') same = absurd (each_last HappensAlike xs ys _ _ same).1
  all_alike place begun first second d e (one_ended xs c d' m o r s h step ends) (one_ended ys c' e' n p r' s' hs step' ends') same =
      let last = each_last HappensAlike xs ys (has_ended m o) (has_ended n p) same in
      let was = all_alike place begun xs ys c c' h hs last.0 in
      let T : ℕ × Result Report ℕ → Type 0 = λ t. Finishes c t.0 t.1 d' in
      (finishes_alike c c' d' e' n p was.0 (subst T (λ k. (last.1.0 k, last.1.1 k)) ends) ends', each_pushed IsToldAlike xs ys (has_ended m o) (has_ended n p) was.1 tt)
  all_alike place begun first second d e (one_asked xs c d' x p r s h alone) (one_asked ys c' e' y q r' s' hs alone') same =
      let last = each_last HappensAlike xs ys (was_asked x p) (was_asked y q) same in
      let was = all_alike place begun xs ys c c' h hs last.0 in
      let now = answers_alike (starts_placed starts) (looks_placed looks) one c c' d' e' x y p q (for_place place r) (for_place place r') (for_place place s) (for_place place s') was.0 alone alone' last.1 in
      (now.0, each_pushed IsToldAlike xs ys (was_asked x p) (was_asked y q) was.1 now.1)

  pub told_alike : (place : ℕ) (begun : Ledger) (first second : List DeskEvent) (d e : Ledger) → HappensAlone starts looks takes place keeps_all begun first d → HappensAlone starts looks takes place keeps_all begun second e → EachTwo HappensAlike first second
      → EachTwo IsToldAlike first second
  told_alike place begun first second d e h hs same = (all_alike place begun first second d e h hs same).1
