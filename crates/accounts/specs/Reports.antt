-- The report of a job that is over, wherever it lies.
use Rattle.credit_book.specs.declared.book.Report.{Report}
use Rattle.accounts.specs.declared.kept_report.ReportPlace.{ReportPlace}
use Rattle.accounts.specs.declared.kept_report.ReportPlace.TheVariants.{Own, Shared}

-- the report, in its own place or shared
abbrev pub report_there : ReportPlace → Report
report_there (Own report) = report
report_there (Shared report) = report
