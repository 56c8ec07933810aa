use Rattle.std.proofs.Common.{◌≡◌, ℕ, Bool, true, Ok}
use Rattle.std.specs.Io.Buffered.{reader_remaining}
use Rattle.std.specs.Io.Iter.{lines_known_bytes}
use Rattle.console.proofs.Rounds.{Leads}
use Rattle.console.proofs.serving.serve_lines.Given as goal

abbrev pub invariant-loop-line : goal.invariant-loop-line
invariant-loop-line g l = record {
  kept : (p : _ → Bool) → p l.fn.state ≡ true
      → ((s : _) (n : ℕ) (line : _) (t : _) → p s ≡ true → goal.F-post g l.serve s n line (Ok t) → p t ≡ true)
      → p l.state ≡ true;
  each : Leads (goal.F-post g l.serve) l.fn.state
      (g.B.Read.remaining l.fn.source) l.number l.state (lines_known_bytes (reader_remaining g.B.Read.remaining) l.line-iterator);
}
