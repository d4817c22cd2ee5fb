-- The number of each refusal: the one place of the specifications where the numbers stand.
-- A reader must believe: the table, beside docs/REFUSALS.md.
use Rattle.std.specs.Prelude.{ℕ}
use Rattle.refusals.specs.declared.Refusal.{Refusal}
use Rattle.refusals.specs.declared.Refusal.TheVariants.{BadOpening, RecordNotEmpty, NoSuchPost, NoSuchLetter, PostCorrupted, PostNotCorrupted, TooManyCorrupted, PostNotReady, Malformed, OtherView, KindNotTaken, NotOwnBroadcast, Repeated, EditionNotAdmitted, KeyViewOutOfRange, NotCertified, RollFull, RecordFull, BufferTooShort}

abbrev pub number_of : Refusal → ℕ
number_of BadOpening = 1
number_of RecordNotEmpty = 2
number_of NoSuchPost = 3
number_of NoSuchLetter = 4
number_of PostCorrupted = 5
number_of PostNotCorrupted = 6
number_of TooManyCorrupted = 7
number_of PostNotReady = 8
number_of Malformed = 9
number_of OtherView = 10
number_of KindNotTaken = 11
number_of NotOwnBroadcast = 12
number_of Repeated = 13
number_of EditionNotAdmitted = 14
number_of KeyViewOutOfRange = 15
number_of NotCertified = 16
number_of RollFull = 17
number_of RecordFull = 18
number_of BufferTooShort = 19
