use Rattle.std.proofs.Common.{◌≡◌, rules}
use Rattle.helpers.specs.Table.{job_table}
use Rattle.helpers.proofs.TableLemmas.{first_arity, first_known}
use Rattle.helpers.proofs.table.HelperTable.add.Goals as goal
use Rattle.helpers.proofs.table.HelperTable.add.Goals.{in-Some-1, in-None-1}

pub invariant_of-self-in_ok-new-in-None-2 : goal.invariant_of-self-in_ok-new-in-None-2
invariant_of-self-in_ok-new-in-None-2 c =
    rw (c.in_ok-new-in-None.ensures.ok, c.put-in-None.ensures.set)
    (first_known c.args.id c.args.arity c.requires.added c.requires.few c.requires.arity)

pub returns-in_ok-new-in-None-clause-ok : goal.returns-in_ok-new-in-None-clause-ok
returns-in_ok-new-in-None-clause-ok c =
    let none : c.args.self.now ≡ job_table = search rules in
    elim c.match-self-2.branch [
      | in-Some-1 w ↦
          rw (w.self-is, c.in_ok-new-in-None.ensures.ok, c.put-in-None.ensures.set)
          (first_arity c.args.self.now c.args.id c.args.arity none c.requires.added c.requires.few)
      | in-None-1 w ↦
          rw (w.self-is, c.in_ok-new-in-None.ensures.ok, c.put-in-None.ensures.set)
          (first_arity c.args.self.now c.args.id c.args.arity none c.requires.added c.requires.few)
    ]
