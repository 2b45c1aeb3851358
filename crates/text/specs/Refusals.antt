-- The number of each refusal.
use Rattle.std.specs.Prelude.{ℕ}
use Rattle.text.specs.declared.refusal.Refusal.{Refusal}
use Rattle.text.specs.declared.refusal.Refusal.TheVariants.{TooLong, NoNewline, NotLabels, BadName, NameCount, NameTwice, PathLength, NotSteps, TooManySteps, TooManySets, StatesLine, Row, NotRegisterless, NotStackless, Limit, Label, AfterRoot, TooDeep, TooMany, NothingOpen, TagLine, UnknownName}

abbrev pub number : Refusal → ℕ
number TooLong = 1
number NoNewline = 2
number NotLabels = 3
number BadName = 4
number NameCount = 5
number NameTwice = 6
number PathLength = 7
number NotSteps = 8
number TooManySteps = 9
number TooManySets = 10
number StatesLine = 11
number Row = 12
number NotRegisterless = 13
number NotStackless = 14
number Limit = 15
number Label = 16
number AfterRoot = 17
number TooDeep = 18
number TooMany = 19
number NothingOpen = 20
number TagLine = 21
number UnknownName = 22
