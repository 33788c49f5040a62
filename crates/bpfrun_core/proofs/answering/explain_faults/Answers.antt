use Rattle.std.proofs.Common.{◌≡◌, ◌==◌, ◌∙◌, ℕ, ap, length, option_map, refl, sym, true≢false}
use Rattle.bpfrun_core.proofs.answering.explain_faults.Goals as goal

pub returns : goal.returns
returns c =
    let long : c.in_ok-list.list.len ≡ length c.in_ok-list.list.items = c.in_ok-list.list.ok.0 in (
      record {
        source = option_map (λ text. text.now) c.source_of.result;
        list = c.in_ok-list.list.items;
        told = rw c.job.ensures at c.in_ok-list.ensures;
        some = λ e. true≢false (sym (ap (λ (n : ℕ). n == 0) (long ∙ ap length e)) ∙ (sym c.is_empty.ensures ∙ c.if-is_empty.false));
      },
      refl,
    )
