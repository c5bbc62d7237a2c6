-- Document 01's and 02's number of each fault, and those of a text's lines. Assumes nothing.
use Rattle.std.specs.Prelude.{ℕ}
use Rattle.answers.specs.declared.fault.Fault.{Fault}
use Rattle.answers.specs.declared.fault.Fault.TheVariants.{
  Mark,
  Version,
  Length,
  PartCount,
  Name,
  LinkParts,
  NoWeight,
  Rising,
  LinkAgain,
  CliqueSize,
  Tables,
  State,
  NoClique,
  NoPart,
  Slots,
  Space,
  Dump,
  DumpRow,
  NoLink,
  Journal,
  NameAgain,
  ProductSize,
  NotANumber,
  TreeLines,
  LineForm,
  PartAgain,
  UnknownPart,
  WeightForm,
}

abbrev pub number_of : Fault → ℕ
number_of Mark = 1
number_of Version = 2
number_of Length = 3
number_of PartCount = 4
number_of Name = 5
number_of LinkParts = 6
number_of NoWeight = 7
number_of Rising = 8
number_of LinkAgain = 9
number_of CliqueSize = 10
number_of Tables = 11
number_of State = 12
number_of NoClique = 13
number_of NoPart = 14
number_of Slots = 15
number_of Space = 16
number_of Dump = 17
number_of DumpRow = 18
number_of NoLink = 19
number_of Journal = 20
number_of NameAgain = 21
number_of ProductSize = 22
number_of NotANumber = 23
number_of TreeLines = 24
number_of LineForm = 101
number_of PartAgain = 102
number_of UnknownPart = 103
number_of WeightForm = 104
