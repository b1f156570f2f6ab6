-- What the methods of a line ask of its room. What they write is said by `AddsText` (Words).
use Rattle.std.specs.Prelude.{ℕ, ◌+◌, ◌≤◌}
use Rattle.line.specs.declared.buffer.Text.{Text}

-- so many bytes more are within the 80
abbrev pub LineHasRoom : Text → ℕ → Type 0
LineHasRoom text n = text.count + n ≤ 80
