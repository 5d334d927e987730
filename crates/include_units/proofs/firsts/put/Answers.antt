use Rattle.std.proofs.Common.{◌≡◌, sym, ◌∙◌, arith, cond, Some, bytes_eq}
use Rattle.std.specs.HashMap.{get_by_text}
use Rattle.std.proofs.lemmas.Map.Text.{text_keys}
use Rattle.include_units.proofs.FirstLemmas.{goes_first, none_of}
use Rattle.include_units.proofs.firsts.put.Goals as goal

pub returns-clause-put : goal.returns-clause-put
returns-clause-put g c = λ text.
    let e : get_by_text c.insert.new.self text ≡ cond (bytes_eq c.args.name.now text) (Some c.args.value) (get_by_text c.args.map.now text) = grind (arith, text_keys) in
    goes_first (get_by_text c.args.map.now) c.args.name.now text c.args.value (get_by_text c.insert.new.self text)
    (none_of (get_by_text c.args.map.now c.args.name.now) (sym c.contains_key.ensures ∙ c.if-contains_key.false)) e
