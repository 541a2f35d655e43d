-- The sentence in which each refusal is told to a person. Assumes nothing.
use Rattle.std.specs.Prelude.{ℕ, List, ◌++◌, codes, decimal}
use Rattle.refusals.specs.declared.Refusal.{Refusal}
use Rattle.refusals.specs.declared.Refusal.TheVariants.{ImageLength, WordTooLarge, PageRange, TooFewRows, SuccessorOutside, UndefinedReached, FramesMixed, ReturnMisplaced, PageRegisterWritten, StackTooDeep, PageNotOwned, NoSuchPage, TooManyTicks, TickTooLarge, LoadBytesTooShort, PcOutside, UndefinedWord, NotInService, StackEmpty, NextOutside, StackFull, MissingPage, ExportsFull, UnknownKind, RecordCutOff, TooManyRecords, JobTooLong, BoardMemoryLength, FieldOutOfRange}

abbrev pub sentence : Refusal → List ℕ
sentence ImageLength = codes "the program has fewer than 2 or more than 4096 words"
sentence (WordTooLarge address) = codes "the word at address " ++ (decimal address ++ codes " is not below 262144")
sentence PageRange = codes "the first owned page is above the last, or the last above 65535"
sentence TooFewRows = codes "there are fewer rows than words"
sentence (SuccessorOutside address) = codes "the word at address " ++ (decimal address ++ codes " leads outside the program")
sentence (UndefinedReached address) = codes "the word at address " ++ (decimal address ++ codes " can be reached and is no instruction")
sentence (FramesMixed address) = codes "address " ++ (decimal address ++ codes " can be reached both in the outer frame and in a routine")
sentence (ReturnMisplaced address) = codes "the return at address " ++ (decimal address ++ codes " has no frame to leave")
sentence (PageRegisterWritten address) = codes "the word at address " ++ (decimal address ++ codes " writes R14 or R15 in the interrupt handler")
sentence StackTooDeep = codes "the program can need more than 16 stack entries"
sentence (PageNotOwned address) = codes "the word at address " ++ (decimal address ++ codes " can reach a page that is not owned")
sentence NoSuchPage = codes "the memory has no such page"
sentence TooManyTicks = codes "there are more than 65536 ticks"
sentence (TickTooLarge place) = codes "the tick at place " ++ (decimal place ++ codes " is not below 512")
sentence LoadBytesTooShort = codes "there are fewer than 3 load bytes for each word"
sentence (PcOutside pc) = codes "address " ++ (decimal pc ++ codes " lies outside the program")
sentence (UndefinedWord pc) = codes "the word at address " ++ (decimal pc ++ codes " is no instruction")
sentence (NotInService pc) = codes "iret at address " ++ (decimal pc ++ codes " with no interrupt in service")
sentence (StackEmpty pc) = codes "return at address " ++ (decimal pc ++ codes " with an empty call stack")
sentence (NextOutside pc) = codes "address " ++ (decimal pc ++ codes " leads outside the program")
sentence (StackFull pc) = codes "the call stack is full at address " ++ decimal pc
sentence (MissingPage pc) = codes "address " ++ (decimal pc ++ codes " uses a page that the memory lacks")
sentence (ExportsFull pc) = codes "the export list is full at address " ++ decimal pc
sentence (UnknownKind place) = codes "the record at byte " ++ (decimal place ++ codes " has an unknown kind")
sentence (RecordCutOff place) = codes "the job ends inside the record at byte " ++ decimal place
sentence (TooManyRecords place) = codes "the record at byte " ++ (decimal place ++ codes " is one word or tick too many: 4096 are allowed")
sentence JobTooLong = codes "the job has more than 65535 bytes"
sentence BoardMemoryLength = codes "board memory needs 1 to 65536 whole pages of 256 bytes"
sentence FieldOutOfRange = codes "a field of the instruction is out of range"
