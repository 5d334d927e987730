use Rattle.std.proofs.Common.{[], ◌∷◌, map, string_bytes, refl}
use Rattle.serde_json.specs.Written.{compact_text}
use Rattle.gen_project.specs.Script.{changed}
use Rattle.gen_project.proofs.Loops.{turns, adds}
use Rattle.gen_project.proofs.script.change_units.Goals as goal

pub units-preserved : goal.units-preserved
units-preserved c =
    let n = c.args.number in
    let k = c.units.k in
    turns (λ ks. map compact_text (map (changed n) ks)) (compact_text (changed n k) ∷ []) (map string_bytes c.args.contents.now.items) (map string_bytes c.units.contents.items) _ n k
    (λ ks. refl) c.units-test.true (adds string_bytes c.units.contents.items c.push.new.self.items c.in_ok-content.content (compact_text (changed n k)) c.in_ok-push.ensures.items c.in_ok-content.ensures) c.units.invariant
