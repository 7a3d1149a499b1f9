-- What broke the text, its line's end and the drawing, one behind the other.
use mathlib.Core.Path.{refl}
use Rattle.text.proofs.Laws.{then_puts}
use Rattle.faults.proofs.explain.Goals as goal

pub returns : goal.returns
returns c = record {
  text = _;
  answer = record { reason = c.why-reason.result; tells = c.why-reason.ensures; says = refl };
  puts = then_puts (then_puts c.put_reason-next.ensures c.put_byte-next.ensures) c.put_drawing.ensures;
}
