-- Desks of tenants over two runner types.
use Rattle.std.proofs.Common.{◌≡◌, ℕ, Bool, List, Option, Some, None, Result, Ok, Err, inl, inr, ap, ◌∙◌}
use Rattle.credit_book.specs.declared.book.Report.{Report}
use Rattle.credit_book.specs.declared.board.Progress.{Progress}
use Rattle.job_core.specs.Admitted.{AdmittedJob}
use Rattle.accounts.specs.declared.keep_limits.KeepLimits.{KeepLimits}
use Rattle.accounts.specs.Ledgers.{Ledger}
use Rattle.sessions.specs.Grammar.{Asked}
use Rattle.shared_desk.specs.ServerAsked.{answers_counting}
use Rattle.shared_desk.proofs.AskedOfDesks.{counting_alike}
use Rattle.shared_desk.specs.Histories.{Query}
use Rattle.tenant_desks.specs.declared.placed_runner.PlacedRunner.{PlacedRunner}
use Rattle.tenant_desks.specs.Placing.{placed}
use Rattle.tenant_desks.specs.PlacedRunners.{starts_placed, looks_placed, takes_placed}
use Rattle.tenant_desks.specs.Routing.{desk_for}
use Rattle.tenant_desks.specs.Tenancies.{Tenancy}
use Rattle.tenant_desks.specs.Answering.{AnswersAlone, AnswersWhere, EndsTaken, KeptRunner, PassesEnds, door_answers, for_place, named_answers, none_yet, one_more, tenant_answers}
use Rattle.job_pools.specs.declared.limited_runner.LimitedRunner.{LimitedRunner}
use Rattle.job_pools.specs.LineBounded.{looks_by_line, starts_by_line, takes_by_line}
use Rattle.job_pools.specs.declared.line_limited_runner.LineLimitedRunner.{LineLimitedRunner}
use Rattle.job_pools.specs.Bounded.{looks_within, starts_within, takes_within}
use Rattle.job_pools.specs.Holds.{StartsBy, TellsBy, TakesBy}
use Rattle.job_pools.specs.Started.{pooled_at, pooled_count}
use Rattle.job_server.specs.declared.bounds.Bounds.{Bounds}
use Rattle.job_server.specs.declared.fault.ServeFault.{ServeFault}
use Rattle.job_server.specs.declared.tenant_door.TenantDoor.{TenantDoor}
use Rattle.job_server.specs.AtOnce.{IsServingFrom, Pool}
use Rattle.job_pools.specs.LineBounded.{new_by_line}
use Rattle.job_server.specs.TenantLimits.{door_limits}
use Rattle.tenant_desks.specs.AtDoors.{BehindDoors, keeps_no_key}
use Rattle.tenant_desks.proofs.DoorLemmas.{doors_alike, doors_as}
use Rattle.job_server.specs.TenantServing.{BeginsAtDesks, DoorsHosted, TenantHosted, hosted_door_answers, hosted_tenant_answers}
use Rattle.job_server.proofs.Alike.{replies_alike}
use Rattle.job_server.proofs.AtOnceAlike.{limited, serving_kept, within_alike}

module _ {R Q : Type 0} (f : R → Q)
    (starts : R → ℕ → AdmittedJob → Result (Unit {0}) ℕ → R → Type 0) (looks : R → ℕ → Progress → R → Type 0) (takes : R → Option (ℕ × Result Report ℕ) → R → Type 0)
    (starts1 : Q → ℕ → AdmittedJob → Result (Unit {0}) ℕ → Q → Type 0) (looks1 : Q → ℕ → Progress → Q → Type 0) (takes1 : Q → Option (ℕ × Result Report ℕ) → Q → Type 0)
    (starts_alike : (r : R) (n : ℕ) (o : AdmittedJob) (x : Result (Unit {0}) ℕ) (s : R) → starts r n o x s → starts1 (f r) n o x (f s))
    (looks_alike : (r : R) (n : ℕ) (p : Progress) (s : R) → looks r n p s → looks1 (f r) n p (f s))
    (takes_alike : (r : R) (x : Option (ℕ × Result Report ℕ)) (s : R) → takes r x s → takes1 (f r) x (f s)) where
  -- a runner for one desk, with what its runner comes to
  abbrev pub placed_as : PlacedRunner R → PlacedRunner Q
  placed_as p = record { runner = f p.runner; place = p.place }

  -- a handler, with what its runner comes to
  abbrev pub kept_as : KeptRunner R → KeptRunner Q
  kept_as k = record { runner = f k.runner; keep = k.keep }

  -- desks and a handler, with what its runner comes to
  abbrev pub desks_as : Tenancy × KeptRunner R → Tenancy × KeptRunner Q
  desks_as s = (s.0, kept_as s.1)

  placed_starts : (r : PlacedRunner R) (n : ℕ) (o : AdmittedJob) (x : Result (Unit {0}) ℕ) (s : PlacedRunner R) → starts_placed starts r n o x s → starts_placed starts1 (placed_as r) n o x (placed_as s)
  placed_starts r n o x s h = (
    elim h.0 [
      | inl fits ↦ inl (fits.0, starts_alike r.runner (placed n r.place) o x s.runner fits.1)
      | inr over ↦ inr (over.0, over.1, ap f over.2)
    ],
    h.1,
  )

  placed_looks : (r : PlacedRunner R) (n : ℕ) (p : Progress) (s : PlacedRunner R) → looks_placed looks r n p s → looks_placed looks1 (placed_as r) n p (placed_as s)
  placed_looks r n p s h = (
    elim h.0 [
      | inl fits ↦ inl (fits.0, looks_alike r.runner (placed n r.place) p s.runner fits.1)
      | inr over ↦ inr (over.0, over.1, ap f over.2)
    ],
    h.1,
  )

  placed_takes : (r : PlacedRunner R) (x : Option (ℕ × Result Report ℕ)) (s : PlacedRunner R) → takes_placed r x s → takes_placed (placed_as r) x (placed_as s)
  placed_takes r x s h = (h.0, ap placed_as h.1)

  taken_as : (desks : List Ledger) (runner : R) (after : List Ledger) (last : R) → EndsTaken takes desks runner after last → EndsTaken takes1 desks (f runner) after (f last)
  taken_as desks runner after last none_yet = none_yet
  taken_as desks runner after last (one_more ds r number outcome s es before takes_one notes) =
      one_more ds (f r) number outcome (f s) es (taken_as desks runner ds r before) (takes_alike r (Some (number, outcome)) s takes_one) notes

  passes_as : (desks : List Ledger) (runner : R) (after : List Ledger) (left : R) → PassesEnds takes desks runner after left → PassesEnds takes1 desks (f runner) after (f left)
  passes_as desks runner after left p = record {
    last = f p.last;
    taken = taken_as desks runner after p.last p.taken;
    none_left = takes_alike p.last None left p.none_left;
  }

  alone_as : (keep : KeepLimits) (r s : PlacedRunner R) (query : Result Asked ℕ) (reply : List ℕ) (before after : Ledger) → AnswersAlone (starts_placed starts) (looks_placed looks) keep r s query reply before after → AnswersAlone (starts_placed starts1) (looks_placed looks1) keep (placed_as r) (placed_as s) query reply before after
  alone_as keep r s query reply before after a = record {
    mid = a.mid;
    told = a.told;
    replies = replies_alike placed_as (starts_placed starts) (looks_placed looks) takes_placed (starts_placed starts1) (looks_placed looks1) takes_placed placed_starts placed_looks placed_takes before a.mid r s query _ a.replies;
    frame = a.frame;
    keeps = a.keeps;
  }

  where_as : (keep : KeepLimits) (place : Result ℕ ℕ) (query : Result Asked ℕ) (desks : List Ledger) (runner : R) (reply : List ℕ) (after : List Ledger) (left : R)
      → AnswersWhere starts looks keep place query desks runner reply after left → AnswersWhere starts1 looks1 keep place query desks (f runner) reply after (f left)
  where_as keep (Err code) query desks runner reply after left h = (h.0, h.1, ap f h.2)
  where_as keep (Ok place) query desks runner reply after left h = record {
    before = h.before;
    was = h.was;
    after = h.after;
    changed = alone_as keep (for_place place runner) (for_place place left) query reply h.before h.after h.changed;
    is = h.is;
  }

  pub desks_alike : (s : Tenancy × KeptRunner R) (query : Query) (reply : List ℕ) (t : Tenancy × KeptRunner R)
      → named_answers starts looks takes s query reply t → named_answers starts1 looks1 takes1 (desks_as s) query reply (desks_as t)
  desks_alike s query reply t a = (
    record {
      mid = a.0.mid;
      rest = f a.0.rest;
      passed = passes_as s.0.desks s.1.runner a.0.mid a.0.rest a.0.passed;
      answered = where_as s.1.keep (desk_for s.0.names query.passage query.asked) query.asked a.0.mid a.0.rest reply t.0.desks t.1.runner a.0.answered;
    },
    a.1,
    a.2,
  )

-- ---- a runner with a limit for each line of numbers

module _ {R Q : Type 0} (g : R → Q) where
  -- with what its runner comes to
  abbrev pub in_lines : LineLimitedRunner R → LineLimitedRunner Q
  in_lines l = record { runner = g l.runner; limits = l.limits; counts = l.counts }

  module _ (starts : R → ℕ → AdmittedJob → Result (Unit {0}) ℕ → R → Type 0) (looks : R → ℕ → Progress → R → Type 0) (takes : R → Option (ℕ × Result Report ℕ) → R → Type 0)
      (starts1 : Q → ℕ → AdmittedJob → Result (Unit {0}) ℕ → Q → Type 0) (looks1 : Q → ℕ → Progress → Q → Type 0) (takes1 : Q → Option (ℕ × Result Report ℕ) → Q → Type 0)
      (starts_alike : (r : R) (n : ℕ) (j : AdmittedJob) (x : Result (Unit {0}) ℕ) (s : R) → starts r n j x s → starts1 (g r) n j x (g s))
      (looks_alike : (r : R) (n : ℕ) (p : Progress) (s : R) → looks r n p s → looks1 (g r) n p (g s))
      (takes_alike : (r : R) (x : Option (ℕ × Result Report ℕ)) (s : R) → takes r x s → takes1 (g r) x (g s)) where
    pub line_starts : (l : LineLimitedRunner R) (n : ℕ) (j : AdmittedJob) (x : Result (Unit {0}) ℕ) (m : LineLimitedRunner R) → starts_by_line starts l n j x m → starts_by_line starts1 (in_lines l) n j x (in_lines m)
    line_starts l n j x m h = (
      elim h.0 [
        | inl full ↦ inl (full.0, full.1, ap g full.2)
        | inr room ↦ inr (room.0, starts_alike l.runner n j x m.runner room.1)
      ],
      h.1,
      h.2,
    )

    pub line_looks : (l : LineLimitedRunner R) (n : ℕ) (p : Progress) (m : LineLimitedRunner R) → looks_by_line looks l n p m → looks_by_line looks1 (in_lines l) n p (in_lines m)
    line_looks l n p m h = (looks_alike l.runner n p m.runner h.0, h.1, h.2)

    pub line_takes : (l : LineLimitedRunner R) (x : Option (ℕ × Result Report ℕ)) (m : LineLimitedRunner R) → takes_by_line takes l x m → takes_by_line takes1 (in_lines l) x (in_lines m)
    line_takes l x m h = (takes_alike l.runner x m.runner h.0, h.1, h.2)

-- desks and a pool within its host's bounds, with what the pool comes to
abbrev pub host_as : {R : Type 0} → (R → Pool) → KeptRunner (LineLimitedRunner (LimitedRunner R)) → KeptRunner (LineLimitedRunner (LimitedRunner Pool))
host_as f k = record { runner = in_lines (limited f) k.runner; keep = k.keep }

abbrev pub hosted_as : {R : Type 0} → (R → Pool) → Tenancy × KeptRunner (LineLimitedRunner (LimitedRunner R)) → TenantHosted
hosted_as f s = (s.0, host_as f s.1)

-- the same behind doors
abbrev pub doors_hosted_as : {R : Type 0} → (R → Pool) → Tenancy × BehindDoors (KeptRunner (LineLimitedRunner (LimitedRunner R))) → DoorsHosted
doors_hosted_as f s = doors_as (host_as f) s

pub begins_as : {R : Type 0} (f : R → Pool) (doors : List TenantDoor) (bounds : Bounds) (l : LimitedRunner R) (pool : R) (begun : Tenancy × BehindDoors (KeptRunner (LineLimitedRunner (LimitedRunner R))))
    → l.runner ≡ pool → l.limit ≡ bounds.open_jobs → BeginsAtDesks doors bounds l begun
    → BeginsAtDesks doors bounds (record { runner = f pool; limit = bounds.open_jobs }) (doors_hosted_as f begun)
begins_as {R} f doors bounds l pool begun is_pool is_limit begins =
    let host : Pool → ℕ → KeptRunner (LineLimitedRunner (LimitedRunner Pool)) = λ p n.
    record { runner = new_by_line (door_limits bounds.tenant_jobs doors) (record { runner = p; limit = n }); keep = bounds.keep } in (
      begins.0,
      ap (host_as f) begins.1
          ∙ ap (λ (p : R). host (f p) l.limit) is_pool ∙ ap (λ (n : ℕ). host (f pool) n) is_limit,
      begins.2,
    )

module _ {R : Type 0} (f : R → Pool) (starts : R → ℕ → AdmittedJob → Result (Unit {0}) ℕ → R → Type 0) (looks : R → ℕ → Progress → R → Type 0) (takes : R → Option (ℕ × Result Report ℕ) → R → Type 0)
    (starts_alike : (r : R) (n : ℕ) (j : AdmittedJob) (x : Result (Unit {0}) ℕ) (s : R) → starts r n j x s → StartsBy pooled_at pooled_count (f r) n j x (f s))
    (looks_alike : (r : R) (n : ℕ) (p : Progress) (s : R) → looks r n p s → TellsBy pooled_at pooled_count (f r) n p (f s))
    (takes_alike : (r : R) (x : Option (ℕ × Result Report ℕ)) (s : R) → takes r x s → TakesBy pooled_at pooled_count (f r) x (f s)) where
  -- a pool within its host's bounds
  abbrev pub starts_in : LimitedRunner R → ℕ → AdmittedJob → Result (Unit {0}) ℕ → LimitedRunner R → Type 0
  starts_in = starts_within (λ r. pooled_count (f r)) starts

  abbrev pub starts_of : LimitedRunner Pool → ℕ → AdmittedJob → Result (Unit {0}) ℕ → LimitedRunner Pool → Type 0
  starts_of = starts_within pooled_count (StartsBy pooled_at pooled_count)

  abbrev pub looks_of : LimitedRunner Pool → ℕ → Progress → LimitedRunner Pool → Type 0
  looks_of = looks_within (TellsBy pooled_at pooled_count)

  abbrev pub takes_of : LimitedRunner Pool → Option (ℕ × Result Report ℕ) → LimitedRunner Pool → Type 0
  takes_of = takes_within (TakesBy pooled_at pooled_count)

  pub pool_starts : (l : LimitedRunner R) (n : ℕ) (j : AdmittedJob) (x : Result (Unit {0}) ℕ) (m : LimitedRunner R) → starts_in l n j x m → starts_of (limited f l) n j x (limited f m)
  pool_starts =
      within_alike f pooled_count (StartsBy pooled_at pooled_count) (TellsBy pooled_at pooled_count) (TakesBy pooled_at pooled_count) starts looks takes starts_alike looks_alike takes_alike

  pub pool_looks : (l : LimitedRunner R) (n : ℕ) (p : Progress) (m : LimitedRunner R) → looks_within looks l n p m → looks_of (limited f l) n p (limited f m)
  pool_looks l n p m h = (looks_alike l.runner n p m.runner h.0, h.1)

  pub pool_takes : (l : LimitedRunner R) (x : Option (ℕ × Result Report ℕ)) (m : LimitedRunner R) → takes_within takes l x m → takes_of (limited f l) x (limited f m)
  pool_takes l x m h = (takes_alike l.runner x m.runner h.0, h.1)

  -- the same with a limit for each tenant
  hosted_alike : (s : Tenancy × KeptRunner (LineLimitedRunner (LimitedRunner R))) (query : Query) (reply : List ℕ) (t : Tenancy × KeptRunner (LineLimitedRunner (LimitedRunner R)))
      → tenant_answers (starts_by_line starts_in) (looks_by_line (looks_within looks)) (takes_by_line (takes_within takes)) s query reply t
      → hosted_tenant_answers (hosted_as f s) query reply (hosted_as f t)
  hosted_alike s query reply t (asked, own, answered) = (
    asked,
    own,
    desks_alike (in_lines (limited f)) (starts_by_line starts_in) (looks_by_line (looks_within looks)) (takes_by_line (takes_within takes))
        (starts_by_line starts_of) (looks_by_line looks_of) (takes_by_line takes_of)
        (line_starts (limited f) starts_in (looks_within looks) (takes_within takes) starts_of looks_of takes_of pool_starts pool_looks pool_takes)
        (line_looks (limited f) starts_in (looks_within looks) (takes_within takes) starts_of looks_of takes_of pool_starts pool_looks pool_takes)
        (line_takes (limited f) starts_in (looks_within looks) (takes_within takes) starts_of looks_of takes_of pool_starts pool_looks pool_takes) s (record { passage = query.passage; asked = asked; beyond = None }) reply t answered,
  )

  hosted_doors_alike : (s : Tenancy × BehindDoors (KeptRunner (LineLimitedRunner (LimitedRunner R)))) (query : Query) (reply : List ℕ) (t : Tenancy × BehindDoors (KeptRunner (LineLimitedRunner (LimitedRunner R))))
      → door_answers (starts_by_line starts_in) (looks_by_line (looks_within looks)) (takes_by_line (takes_within takes)) s query reply t
      → hosted_door_answers (doors_hosted_as f s) query reply (doors_hosted_as f t)
  hosted_doors_alike =
      doors_alike (tenant_answers (starts_by_line starts_in) (looks_by_line (looks_within looks)) (takes_by_line (takes_within takes))) hosted_tenant_answers (host_as f) hosted_alike keeps_no_key keeps_no_key (λ s door key t kept. kept)

  -- the pool's own state is forgotten, but for the jobs that it was given and the boards that it watches
  pub tenants_serving : (begun end : Tenancy × BehindDoors (KeptRunner (LineLimitedRunner (LimitedRunner R)))) (sessions : ℕ) (may_stop : Bool) (outcome : Result (Unit {0}) ServeFault)
      → (serving : IsServingFrom (answers_counting (door_answers (starts_by_line starts_in) (looks_by_line (looks_within looks)) (takes_by_line (takes_within takes)))) (λ s. s ≡ begun) end sessions may_stop outcome)
      → (hosted : IsServingFrom (answers_counting hosted_door_answers) (λ s. s ≡ doors_hosted_as f begun) (doors_hosted_as f end) sessions may_stop outcome) × (hosted.opened ≡ serving.opened) × (hosted.closed ≡ serving.closed)
  tenants_serving begun end sessions may_stop outcome serving =
      serving_kept (doors_hosted_as f) _ (answers_counting hosted_door_answers)
      (counting_alike (door_answers (starts_by_line starts_in) (looks_by_line (looks_within looks)) (takes_by_line (takes_within takes))) hosted_door_answers (doors_hosted_as f) hosted_doors_alike)
      (λ s. s ≡ begun) (λ s. s ≡ doors_hosted_as f begun) (λ s is. ap (doors_hosted_as f) is) end sessions may_stop outcome serving
