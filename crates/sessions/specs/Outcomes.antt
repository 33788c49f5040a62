-- Used by private contracts and proofs alone: the JSON of what a job came to.
use Rattle.serde_json.specs.Data.{Data}
use Rattle.sessions.specs.declared.result.JobOutcome.{JobOutcome}
use Rattle.sessions.specs.Replies.{result_data}

abbrev pub outcome_data : JobOutcome → Data
outcome_data o = result_data o.buffer.now o.returned o.spent o.tasks.now
