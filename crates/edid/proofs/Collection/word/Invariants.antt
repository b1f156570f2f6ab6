-- `edid::Collection::word` meets its contract: from the last question to the first. Assumes nothing.
use Rattle.std.proofs.Common.{◌≡◌, ℕ, ◌-◌, ◌^◌, ◌<◌, ◌≤◌}
use Rattle.edid.specs.declared.Ask.{Ask}
use Rattle.edid.specs.Screen.{tells}
use Rattle.edid.specs.Found.{word_of}
use Rattle.edid.specs.Code.{AsksBy}
use Rattle.edid.proofs.Collection.word.Given as goal

abbrev pub invariant-loop-n : goal.invariant-loop-n
invariant-loop-n g l =
    (l.from ≤ l.n) × (l.word < 2 ^ (l.to - l.n))
    × ((asks : ℕ → Ask) → AsksBy (λ n r. goal.F-post g l.fn.question n r) asks → l.word ≡ word_of (λ n. tells l.self.bytes.now (asks n)) l.n (l.to - l.n))
