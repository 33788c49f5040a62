use Rattle.std.proofs.Common.{refl, sym}
use Rattle.bpfjobs_cli.specs.ResultChecks.{IsAnswerOf}
use Rattle.sessions.specs.ResultObjects.{contents_of}
use Rattle.bpfjobs_cli.proofs.result_check.check_result.Goals as goal

pub returns-in_default : goal.returns-in_default
returns-in_default c = rw c.in_default.is at c.in_ok-job.ensures

pub returns-in_default-2 : goal.returns-in_default-2
returns-in_default-2 c = record {
  job = c.in-Some.job;
  is_job = rw c.in-Some.is at c.in_ok-job.ensures;
  none = rw c.in_default-2.is at c.in_ok-tree.ensures.tree;
}

pub returns-in-None : goal.returns-in-None
returns-in-None c = record {
  job = c.in-Some.job;
  is_job = rw c.in-Some.is at c.in_ok-job.ensures;
  given = c.in-Ok.given;
  is_result = c.in-Ok.ensures;
  answer = _;
  comes = rw c.in-Some-2.is at c.in_ok-tree.ensures.tree;
  compared = rw (c.deref.ensures.value, c.as_slice-size.ensures.value, c.in-None.is) at c.in_ok-difference.ensures;
}

pub returns : goal.returns
returns c = record {
  job = c.in-Some.job;
  is_job = rw c.in-Some.is at c.in_ok-job.ensures;
  given = c.in-Ok.given;
  is_result = c.in-Ok.ensures;
  answer = _;
  comes = rw c.in-Some-2.is at c.in_ok-tree.ensures.tree;
  compared = rw (c.deref.ensures.value, c.as_slice-size.ensures.value, c.in-Some-3.is) at c.in_ok-difference.ensures;
}
