use Rattle.job_core.proofs.live.Live.run_at.Goals as goal

pub returns-clause-ran : goal.returns-clause-ran
returns-clause-ran g c =
    rw (← c.self.view_is, ← c.deref_mut-body.ensures.value) c.run_at.ensures.ran

pub returns-clause-told : goal.returns-clause-told
returns-clause-told g c =
    rw (← c.self.view_is, ← c.deref_mut-body.ensures.value) c.run_at.ensures.told
