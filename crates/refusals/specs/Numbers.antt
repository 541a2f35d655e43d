-- The number of each refusal and the value that it returns. Assumes nothing.
use Rattle.std.specs.Prelude.{ℕ}
use Rattle.refusals.specs.declared.Refusal.{Refusal}
use Rattle.refusals.specs.declared.Refusal.TheVariants.{ImageLength, WordTooLarge, PageRange, TooFewRows, SuccessorOutside, UndefinedReached, FramesMixed, ReturnMisplaced, PageRegisterWritten, StackTooDeep, PageNotOwned, NoSuchPage, TooManyTicks, TickTooLarge, LoadBytesTooShort, PcOutside, UndefinedWord, NotInService, StackEmpty, NextOutside, StackFull, MissingPage, ExportsFull, UnknownKind, RecordCutOff, TooManyRecords, JobTooLong, BoardMemoryLength, FieldOutOfRange}

abbrev pub number_of : Refusal → ℕ
number_of ImageLength = 1
number_of (WordTooLarge address) = 2
number_of PageRange = 3
number_of TooFewRows = 4
number_of (SuccessorOutside address) = 5
number_of (UndefinedReached address) = 6
number_of (FramesMixed address) = 7
number_of (ReturnMisplaced address) = 8
number_of (PageRegisterWritten address) = 9
number_of StackTooDeep = 10
number_of (PageNotOwned address) = 11
number_of NoSuchPage = 12
number_of TooManyTicks = 13
number_of (TickTooLarge place) = 14
number_of LoadBytesTooShort = 15
number_of (PcOutside pc) = 16
number_of (UndefinedWord pc) = 17
number_of (NotInService pc) = 18
number_of (StackEmpty pc) = 19
number_of (NextOutside pc) = 20
number_of (StackFull pc) = 21
number_of (MissingPage pc) = 22
number_of (ExportsFull pc) = 23
number_of (UnknownKind place) = 24
number_of (RecordCutOff place) = 25
number_of (TooManyRecords place) = 26
number_of JobTooLong = 26
number_of BoardMemoryLength = 27
number_of FieldOutOfRange = 28

abbrev pub value_of : Refusal → ℕ
value_of ImageLength = 0
value_of (WordTooLarge address) = address
value_of PageRange = 0
value_of TooFewRows = 0
value_of (SuccessorOutside address) = address
value_of (UndefinedReached address) = address
value_of (FramesMixed address) = address
value_of (ReturnMisplaced address) = address
value_of (PageRegisterWritten address) = address
value_of StackTooDeep = 0
value_of (PageNotOwned address) = address
value_of NoSuchPage = 0
value_of TooManyTicks = 0
value_of (TickTooLarge place) = place
value_of LoadBytesTooShort = 0
value_of (PcOutside pc) = pc
value_of (UndefinedWord pc) = pc
value_of (NotInService pc) = pc
value_of (StackEmpty pc) = pc
value_of (NextOutside pc) = pc
value_of (StackFull pc) = pc
value_of (MissingPage pc) = pc
value_of (ExportsFull pc) = pc
value_of (UnknownKind place) = place
value_of (RecordCutOff place) = place
value_of (TooManyRecords place) = place
value_of JobTooLong = 65535
value_of BoardMemoryLength = 0
value_of FieldOutOfRange = 0
