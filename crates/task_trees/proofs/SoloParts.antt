-- What a state on the way says of the start of a task by itself.
use Rattle.std.proofs.Common.{◌≡◌, ℕ, suc, List, [], ◌∷◌, ◌++◌, length, inl, inr, refl, sym, subst, true, false}
use Rattle.std.proofs.lemmas.List.{append_assoc, append-nil}
use Rattle.machine_model.specs.Machine.{State, Program, Entries, Birth, Continues, Ends, Spawns, effect}
use Rattle.task_trees.specs.Solo.{SpawnRequest, Solo}

-- the task at the start asks for these spawns, and then for those that it asks for from this state on
pub record LeadsFrom (p : Program) (entries : Entries) (start : State) (asked : List SpawnRequest) (s : State) : Type 0 where
  pub leads : (more : List SpawnRequest) (r0 : ℕ) (last : State) → Solo p entries s more r0 last → Solo p entries start (asked ++ more) r0 last

pub leads_start : (p : Program) (entries : Entries) (s : State) → LeadsFrom p entries s [] s
leads_start p entries s = record { leads = λ more r0 last solo. solo }

module _ (p : Program) (entries : Entries) (start : State) (asked : List SpawnRequest) (s : State) (way : LeadsFrom p entries start asked s) where
  pub leads_goes : (next : State) → effect p entries s ≡ Continues next → LeadsFrom p entries start asked next
  leads_goes next is = record { leads = λ more r0 last solo. way.leads more r0 last (suc solo.0, rw is solo.1) }

  one_further : (a : SpawnRequest) (next : State) → ((more : List SpawnRequest) (r0 : ℕ) (last : State) → Solo p entries next more r0 last → Solo p entries s (a ∷ more) r0 last) →
      LeadsFrom p entries start (asked ++ a ∷ []) next
  one_further a next more_of = record {
    leads = λ more r0 last solo. subst (λ (l : List SpawnRequest). Solo p entries start l r0 last) (sym (append_assoc asked (a ∷ []) more))
        (way.leads (a ∷ more) r0 last (more_of more r0 last solo));
  }

  pub leads_taken : (birth : Birth) (taken refused : State) → effect p entries s ≡ Spawns birth taken refused →
      LeadsFrom p entries start (asked ++ record { birth = birth; at = length taken.part; refused = false } ∷ []) taken
  leads_taken birth taken refused is =
      one_further (record { birth = birth; at = length taken.part; refused = false }) taken
      (λ more r0 last solo. (suc solo.0, rw is (more, inl (refl, solo.1))))

  pub leads_refused : (birth : Birth) (taken refused : State) → effect p entries s ≡ Spawns birth taken refused →
      LeadsFrom p entries start (asked ++ record { birth = birth; at = length taken.part; refused = true } ∷ []) refused
  leads_refused birth taken refused is =
      one_further (record { birth = birth; at = length taken.part; refused = true }) refused
      (λ more r0 last solo. (suc solo.0, rw is (more, inr (refl, solo.1))))

  pub leads_end : (r0 : ℕ) (last : State) → effect p entries s ≡ Ends r0 last → Solo p entries start asked r0 last
  leads_end r0 last is =
      subst (λ (l : List SpawnRequest). Solo p entries start l r0 last) (append-nil asked) (way.leads [] r0 last (1, rw is (refl, refl, refl)))
