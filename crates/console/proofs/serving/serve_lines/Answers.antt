use Rattle.std.proofs.Common.{string_bytes, rules}
use Rattle.std.specs.Io.Buffered.{reader_remaining}
use Rattle.std.specs.Io.Iter.{lines_known_bytes}
use Rattle.console.proofs.Rounds.{led_more, led_stop, led_end}
use Rattle.console.proofs.serving.serve_lines.Goals as goal

pub loop-line-preserved : goal.loop-line-preserved
loop-line-preserved g c =
    let left = lines_known_bytes (reader_remaining g.B.Read.remaining) c.loop-line.line-iterator in
    let more = lines_known_bytes (reader_remaining g.B.Read.remaining) c.next.new.self in
    record {
      kept = λ p start step. step _ _ _ _ (c.loop-line.invariant.kept p start step) c.in-Ok.ensures;
      each = led_more (λ s n shown r. g.F.Fn.post c.args.serve (s, (n, (shown, tt))) r) c.args.state (g.B.Read.remaining c.args.source) left more
          c.loop-line.number _ c.loop-line.state c.in-Ok.next (string_bytes c.in_ok-line.line) c.as_bytes.result
          c.loop-line.invariant.each (search rules) (search rules) c.as_bytes.ensures.value c.in-Ok.ensures;
    }

pub returns-clause-each : goal.returns-clause-each
returns-clause-each g c =
    let left = lines_known_bytes (reader_remaining g.B.Read.remaining) c.loop-line.line-iterator in
    led_end (λ s n shown r. g.F.Fn.post c.args.serve (s, (n, (shown, tt))) r) c.args.state (g.B.Read.remaining c.args.source) left
    c.loop-line.number c.loop-line.state c.loop-line.invariant.each (search rules)

pub returns-in-Err-clause-refused : goal.returns-in-Err-clause-refused
returns-in-Err-clause-refused g c =
    let left = lines_known_bytes (reader_remaining g.B.Read.remaining) c.loop-line.line-iterator in
    let more = lines_known_bytes (reader_remaining g.B.Read.remaining) c.next.new.self in
    led_stop (λ s n shown r. g.F.Fn.post c.args.serve (s, (n, (shown, tt))) r) c.args.state (g.B.Read.remaining c.args.source) left more
    c.loop-line.number _ c.loop-line.state c.in-Err.error (string_bytes c.in_ok-line.line) c.as_bytes.result
    c.loop-line.invariant.each (search rules) (search rules) c.as_bytes.ensures.value c.in-Err.ensures
