use Rattle.std.proofs.Common.{length, ◌-◌, ◌≡◌, ◌≢◌, ◌≤◌, false, true}
use Rattle.helpers.specs.Table.{job_table}
use Rattle.telgovan_c.specs.Hosted.{AreAritiesTo, AreHelpersTo}
use Rattle.telgovan_c.proofs.hosted.helpers_told.Given as goal

-- the words before this one are told in the table
abbrev pub invariant-loop-place : goal.invariant-loop-place
invariant-loop-place l = record {
  within : l.place ≤ length l.words;
  few : length l.words ≤ 64;
  arities : AreAritiesTo l.words l.place;
  told : AreHelpersTo l.words l.place l.table;
  own : l.hosted ≡ false → l.table ≡ job_table;
  beside : l.hosted ≡ true → l.table ≢ job_table;
}

abbrev pub decreases-loop-place : goal.decreases-loop-place
decreases-loop-place l = length l.words - l.place
