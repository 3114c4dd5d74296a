-- What the words do, and what they write.
use Rattle.std.specs.Prelude.{◌≡◌, ℕ, List, [], Option, Some, true, IfSome, Ok}
use Rattle.connections.specs.Clock.{Reading}
use Rattle.console.specs.{Counts.Counts, Files.Source, Tst.Answers}
use Rattle.counter.specs.Streams.{Extent, Streams, Writes}
use Rattle.counter.specs.{Calibration.Calibrates, Connections.ServesConnections, Exchange.Exchanges}
use Rattle.counter.specs.{Explanation.Explains, Extract.Extracts, Hold.Holds, Reply.Replies}
use Rattle.operations.specs.{Machine.Machine, OverFiles.IsMadeOver, OverFiles.MigratesFound}
use Rattle.command_line.specs.declared.words.ContinueWords.{ContinueWords}
use Rattle.command_line.specs.declared.words.Word.TheVariants.{Tst, Check, Init, Migrate, Continue, Calibrate, Hold}
use Rattle.command_line.specs.declared.words.Word.TheVariants.{Answer, Exchange, Serve, Audit, Explain}
use Rattle.command_line.specs.{declared.words.AuditWords.AuditWords, declared.words.Word.Word}

-- Each word has a definition of what it does, and of what is written to the output, to that extent. But for `tst`,
-- `answer` and `exchange` the input isn't read, and where no text is said nothing is written. The files that the words
-- name are `files`. The database is what the machine holds: no definition says at which path; what is said of a history
-- that goes on is `IsContinued`.
abbrev pub Does : {D X C S F O : Type 0} → Machine D X C Reading → (ContinueWords → Type 0) → Source S F → Streams O
    → Word → Extent → Type 0
Does m IsContinued files s (Tst words) extent =
    IfSome s.input (λ text. (written : List ℕ) × Answers words text written × Writes s extent written)
Does m IsContinued files s (Check words) extent =
    (s.input_after ≡ s.input) × ((written : List ℕ) × Counts files words written × Writes s extent written)
Does m IsContinued files s (Init words) extent = (s.input_after ≡ s.input) × IsMadeOver m.disk [] × Writes s extent []
Does m IsContinued files s (Migrate words) extent =
    (s.input_after ≡ s.input) × MigratesFound m.disk m.held × Writes s extent []
Does m IsContinued files s (Continue words) extent =
    (s.input_after ≡ s.input) × IsContinued words × Writes s extent []
Does m IsContinued files s (Calibrate words) extent =
    (s.input_after ≡ s.input) × Calibrates m words × Writes s extent []
Does m IsContinued files s (Hold words) extent = (s.input_after ≡ s.input) × Holds m words × Writes s extent []
Does m IsContinued files s (Answer words) extent =
    IfSome s.input (λ text. (written : List ℕ) × Replies m files words text written × Writes s extent written)
Does m IsContinued files s (Exchange words) extent =
    Exchanges m files words s.contents s.output s.output_after s.input s.input_after extent
Does m IsContinued files s (Serve words) extent =
    (s.input_after ≡ s.input) × ServesConnections m files words (Ok tt) × Writes s extent []
Does m IsContinued files s (Audit words) extent =
    (s.input_after ≡ s.input)
    × Extracts m files words (s.contents s.output) (s.contents s.output_after) s.errors s.errors_after true
    (Writes s extent)
Does m IsContinued files s (Explain words) extent =
    (s.input_after ≡ s.input)
    × ((written : List ℕ) × Explains m files words (Some written) × Writes s extent written)

abbrev pub IsNoAudit : Word → Type 0
IsNoAudit word = (words : AuditWords) → word ≡ Audit words → ⊥
