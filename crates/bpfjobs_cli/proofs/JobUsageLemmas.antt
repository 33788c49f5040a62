-- The refusals of the words of `job`, by its rows.
use Rattle.clap.specs.Words.{Row, first_of}
use Rattle.std.proofs.Common.{List, codes}
use Rattle.bpfjobs_cli.specs.declared.commands.Usage.{Usage}
use Rattle.bpfjobs_cli.specs.declared.job_sources.JobWordFault.{JobWordFault}
use Rattle.bpfjobs_cli.specs.declared.job_sources.JobWordFault.TheVariants as word_fault
use Rattle.bpfjobs_cli.specs.Commands.{IsJobFault, IsJobUsage, source_words}
use Rattle.bpfjobs_cli.specs.JobUsages.{IsBufferFault, IsBufferUsage, IsScheduleFault, IsScheduleUsage, IsWordsFault, IsWordsUsage}
use Rattle.bpfjobs_cli.proofs.JobWordLemmas.{usage_as}

module _ (rows : List Row) where
  by_buffer : (f : JobWordFault) → IsBufferFault (first_of (codes "buffer") rows) f → IsJobFault rows f
  by_buffer (word_fault.Source told) is = absurd is
  by_buffer word_fault.Buffer is = is
  by_buffer word_fault.Schedule is = absurd is

  by_schedule : (f : JobWordFault) → IsScheduleFault (first_of (codes "schedule") rows) f → IsJobFault rows f
  by_schedule (word_fault.Source told) is = absurd is
  by_schedule word_fault.Buffer is = absurd is
  by_schedule word_fault.Schedule is = is

  by_sources : (f : JobWordFault) → IsWordsFault (source_words rows) f → IsJobFault rows f
  by_sources (word_fault.Source told) is = is
  by_sources word_fault.Buffer is = absurd is
  by_sources word_fault.Schedule is = absurd is

  pub buffer_usage : (u : Usage) → IsBufferUsage (first_of (codes "buffer") rows) u → IsJobUsage rows u
  buffer_usage = usage_as (IsBufferFault (first_of (codes "buffer") rows)) (IsJobFault rows) by_buffer

  pub schedule_usage : (u : Usage) → IsScheduleUsage (first_of (codes "schedule") rows) u → IsJobUsage rows u
  schedule_usage = usage_as (IsScheduleFault (first_of (codes "schedule") rows)) (IsJobFault rows) by_schedule

  pub sources_usage : (u : Usage) → IsWordsUsage (source_words rows) u → IsJobUsage rows u
  sources_usage = usage_as (IsWordsFault (source_words rows)) (IsJobFault rows) by_sources
