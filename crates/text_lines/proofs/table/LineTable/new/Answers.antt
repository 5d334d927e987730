use Rattle.std.proofs.Common.{◌≡◌, ◌∙◌, ◌++◌, ◌∷◌, [], ap, ap₂, arith, length, rules, sym, subst}
use Rattle.std.proofs.lemmas.Grind.{common_steps}
use Rattle.text_lines.proofs.Counts.{are_starts}
use Rattle.text_lines.proofs.Starts.{byte_starts, line_starts_bytes}
use Rattle.text_lines.specs.Positions.{line_starts}
use Rattle.text_lines.specs.Starts.{AreStarts}
use Rattle.text_lines.proofs.table.LineTable.new.Goals as goal

pub invariant_of-result : goal.invariant_of-result
invariant_of-result c =
    let made : c.loop-byte.starts.items ≡ line_starts c.args.text.now = grind (arith, common_steps) in
    subst AreStarts (sym made) (are_starts c.args.text.now c.utf8.text c.requires)

pub loop-byte-init : goal.loop-byte-init
loop-byte-init c =
    let first : c.push.new.self.items ≡ 0 ∷ [] = search rules in
    let same : length c.as_bytes-rest.result.now ≡ length c.args.text.now = ap length c.as_bytes-rest.ensures.value in
    record {
      made = ap₂ (λ xs bs. xs ++ byte_starts 0 bs) first c.as_bytes-rest.ensures.value ∙ sym (line_starts_bytes c.args.text.now c.utf8.text);
      place = omega (arith, same);
    }
