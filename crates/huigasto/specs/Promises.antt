-- The words in which the public calls' contracts speak, gathered for a caller's own contracts. Assumes nothing.
pub use Rattle.refusals.specs.Numbers.{number_of, value_of}
pub use Rattle.refusals.specs.Sentences.{sentence}
pub use Rattle.words.specs.Codec.{Writes, Decodes, Encodes, OneInstructionEach, answer_of}
pub use Rattle.words.specs.Decoding.{instruction_of}
pub use Rattle.words.specs.Encoding.{Valid, word_of}
pub use Rattle.words.specs.Patterns.{Defined}
pub use Rattle.words.specs.Text.{text, rotation_mnemonic, flag_mnemonic, transfer_mnemonic, condition_suffix}
pub use Rattle.jobs.specs.Jobs.{Reading, accepted, refused, Means, Answers, Starved, written_job, Storable, ReadingLaws}
pub use Rattle.jobs.specs.Listing.{Lines, Lists, refused_text, error_text}
pub use Rattle.memories.specs.Meaning.{Meaning, Sound, poked}
pub use Rattle.memories.specs.Calls.{Peeks, Pokes}
pub use Rattle.memories.specs.Kinds.{blank, on_chip, of_bytes, board, joined}
pub use Rattle.memories.specs.Laws.{MemoryLaws}
pub use Rattle.memories.specs.Lengths.{WholePages, Checks}
pub use Rattle.machine.specs.Cores.{Core, core_of, fresh}
pub use Rattle.machine.specs.Steps.{Outcome, stopped, went, step, Steps}
pub use Rattle.machine.specs.Runs.{Ran, ran, hindered, lone, stop_number, Reports, Runs}
pub use Rattle.machine.specs.Calls.{State, Poke, Fits, Reached, does, performs, last_poked}
pub use Rattle.machine.specs.Views.{Views}
pub use Rattle.machine.specs.Laws.{MachineLaws}
pub use Rattle.facts.specs.Marks.{any_frame, marks_text}
pub use Rattle.facts.specs.Spans.{point, up_to, hull, contains, moved}
pub use Rattle.ledger.specs.Rows.{blank_row}
pub use Rattle.ledger.specs.Ledgers.{Ledger}
pub use Rattle.ledger.specs.Needs.{depth}
pub use Rattle.ledger.specs.Verdicts.{Surveyed, Clear, CauseAt, Because, SmallestLedger, NoLedger}
pub use Rattle.ledger.specs.Pokes.{pokes_of}
pub use Rattle.ledger.specs.Limits.{SafeWithin, SafeImageWithin, SafetyWithin}
pub use Rattle.ledger.specs.Safety.{Provides, Foreign, start}
pub use Rattle.ledger.specs.Laws.{Larger, CausesGrow, LedgerLaws}
pub use Rattle.inspection.specs.Examples.{WorkedExamples}
pub use Rattle.inspection.specs.Inspects.{Passes, Caused, Refused, Certifies, Certified, Answered, Inspects, verdict_of, OneVerdict}
pub use Rattle.inspection.specs.Obstacles.{FitsDevice, SmallWords, PagesInOrder, Unobstructed, Obstructed}
pub use Rattle.inspection.specs.Loading.{Loaded, Loads, LoadLaw}
pub use Rattle.calls.specs.Calling.{call_of, calls_of, state_of}
pub use Rattle.calls.specs.Answering.{answers_of, exports_of}
pub use Rattle.calls.specs.Performing.{PerformsAll}
pub use Rattle.trial.specs.Trials.{IsFault, Harmless, TrialSafe}
pub use Rattle.reports.specs.Carrying.{Judged, Tried, CarriesOut}
pub use Rattle.reports.specs.Reporting.{OutcomeOf, ReportOf, ReportLaws}
pub use Rattle.reports.specs.Text.{report_text, outcome_text}
pub use Rattle.reports.specs.Reasons.{reasons_text}
pub use Rattle.tables.specs.Table.{table_text}
pub use Rattle.tables.specs.Tabling.{JobTable, NoJobTable}
