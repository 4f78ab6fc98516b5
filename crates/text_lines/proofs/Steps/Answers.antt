-- What the desk's text in a lent output must meet, with too little room and with enough. Assumes nothing.
use Rattle.std.specs.Prelude.{◌≡◌, List, ℕ, ◌≤◌, ◌<◌, length, drop}
use Rattle.std.proofs.Math.Path.{sym}
use Rattle.std.proofs.Common.{ap, arith, length-append, length-take-le}
use Rattle.base_output.specs.declared.Written.{Written}
use Rattle.base_output.specs.Meaning.Output.{written_by, output_after}
use Rattle.base_output.specs.Steps.Met as output
use Rattle.text_rules.specs.Meaning.Put.{Put}
use Rattle.rules.specs.Meaning.Lines.{desk_text}
use Rattle.text_lines.specs.Meaning.Printed.{desk_room, desk_refusal, desk_outcome, desk_written, desk_output, DeskPrinted}
use Rattle.text_lines.proofs.Promised.ShortOutput.{refused-31, past-31}
use Rattle.text_lines.proofs.Promised.Room.{desk-room}

module _ (input out : List ℕ) where
  -- what is written ends within the output
  ends : (bytes : List ℕ) {after : List ℕ} {n : ℕ} → n ≡ length bytes → after ≡ output_after bytes out → n ≤ length after
  ends bytes e w = omega (arith, e, ap length w, length-append bytes (drop (length bytes) out))

  owed : {r : Written} {after : List ℕ} → output.Met (desk_refusal (length out)) (desk_text input) out r after → DeskPrinted input out r after
  unfolding desk_outcome desk_written desk_output
  owed m =
      let inside = ends (written_by (desk_refusal (length out)) (desk_text input)) m.1.0 m.1.1 in
      record { outcome = m.0; written = m.1.0; output = m.1.1; within = (inside, sym (length-take-le _ _ inside)) }

  pub met-refusal : {r : Written} → length out < desk_room → r ≡ record { number = 31; index = 0; length = 0 } → DeskPrinted input out r out
  met-refusal h q = owed (output.met-refusal (desk_text input) out (refused-31 (length out) h) q)

  pub met-answer : {after : List ℕ} {m : ℕ} → desk_room ≤ length out → Put out 0 (desk_text input) after m → DeskPrinted input out (record { number = 0; index = 0; length = m }) after
  met-answer h p = owed (output.met-answer (desk_text input) out (past-31 (length out) h) (omega (arith, desk-room input, h)) (omega (arith, p.position)) p.bytes)
