use Rattle.std.proofs.Common.{rules}
use Rattle.reports.proofs.Once.{report_laws}
use Rattle.reports.proofs.reporting.report.Goals as goal

pub returns-in_err-outcome : goal.returns-in_err-outcome
returns-in_err-outcome c = record { text = search rules; laws = report_laws }

pub returns : goal.returns
returns c = record { text = search rules; laws = report_laws }
