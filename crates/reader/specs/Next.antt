-- What a reader hands out next.
-- A reader must believe: the lines come in order, and at most 65,535 of them.
use Rattle.std.specs.Prelude.{◌≡◌, ℕ, ◌+◌, ◌<◌, ◌⊎◌, List, length, Some, None, Option}
use Rattle.lines.specs.Judged.{Judged}
use Rattle.lines.specs.Lines.{rest_after, line_after}
use Rattle.lines.specs.declared.line.Line.{Line}

-- one step of a reader of an input that has handed out n lines: what it hands out next, and how
-- many it has handed out then
abbrev pub Next : List ℕ → ℕ → Option Line → ℕ → Type 0
Next input n None after = ((length (rest_after n input) ≡ 0) ⊎ (n ≡ 65535)) × (after ≡ n)
Next input n (Some line) after = (0 < length (rest_after n input)) × (n < 65535) × Judged (line_after n input) (n + 1) line × (after ≡ n + 1)
