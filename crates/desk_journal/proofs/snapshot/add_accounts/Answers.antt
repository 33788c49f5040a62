use Rattle.std.proofs.lemmas.Result.{err_from_is_err_and}
use Rattle.compaction.specs.declared.snapshot.SnapshotFault.TheVariants.{TooLarge}
use Rattle.desk_journal.proofs.Added.{account_added, accounts_added, large_account, large_behind}
use Rattle.desk_journal.proofs.ListLemmas.{same_fault}
use Rattle.desk_journal.proofs.snapshot.add_accounts.Goals as goal

pub returns-in_err-add_record-clause-too_large : goal.returns-in_err-add_record-clause-too_large
returns-in_err-add_record-clause-too_large c is =
    let p = err_from_is_err_and c.from_residual-in_err-add_record.result c.from_residual-in_err-add_record.ensures.1 in
    let large = c.in_err-add_record.ensures.too_large (same_fault c.from_residual-in_err-add_record.result p.0 c.in_err-add_record.field-0.0 TooLarge p.1 p.2 is) in
    c.accounts.invariant.large (large_account c.accounts.rest.now c.in-Some.others.now c.in-Some.first.now c.in_ok-payload.payload.items c.deref.result.now c.in-Some.ensures.cases.0 c.in_ok-payload.ensures c.deref.ensures.value large)

pub accounts-preserved : goal.accounts-preserved
accounts-preserved c =
    let is = c.in-Some.ensures.cases.0 in
    record {
      added = account_added c.args.accounts.now c.accounts.rest.now c.in-Some.others.now c.in-Some.first.now c.args.out.now.items c.accounts.out.items c.add_record.new.out.items c.in_ok-payload.payload.items c.deref.result.now
          c.accounts.invariant.added is c.in_ok-payload.ensures c.deref.ensures.value c.in_ok-add_record.ensures.fits c.in_ok-add_record.ensures.added;
      large = large_behind c.args.accounts.now c.accounts.rest.now c.in-Some.others.now c.in-Some.first.now is c.accounts.invariant.large;
    }

pub returns-clause-added : goal.returns-clause-added
returns-clause-added c = accounts_added c.args.accounts.now c.accounts.rest.now c.args.out.now.items c.accounts.out.items c.accounts.invariant.added c.in_default.ensures.cases
