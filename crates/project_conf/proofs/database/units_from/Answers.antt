use Rattle.std.proofs.Common.{rules, arith, ◌≡◌, ◌+◌, [], ◌∷◌, ◌++◌, Some, None, map, length, sym, ap, ◌∙◌}
use Rattle.std.proofs.lemmas.Grind.{common_steps}
use Rattle.serde_json.specs.View.{view, items_of}
use Rattle.project_conf.specs.Database.{unit_of, units_from}
use Rattle.project_conf.proofs.EntryLemmas.{behind, entry_turns, entry_fails, entries_end}
use Rattle.project_conf.proofs.database.units_from.Goals as goal

pub returns : goal.returns
returns c = λ _. entries_end _ _ _ _ _ _ c.loop-entry.invariant.0 c.in_default.ensures.cases c.from_vec.ensures

pub returns-in_default-2 : goal.returns-in_default-2
returns-in_default-2 c = λ _.
    let rest : c.loop-entry.rest.now ≡ c.in-Some.entry.now ∷ c.in-Some.behind.now = search rules in
    let none : None ≡ unit_of c.loop-entry.from (view c.in-Some.entry.now) = search rules in
    entry_fails c.args.root.now c.loop-entry.number (view c.in-Some.entry.now) (items_of (map view c.in-Some.behind.now)) c.loop-entry.units.items _
    (ap (λ vs. behind c.loop-entry.units.items (units_from c.args.root.now c.loop-entry.number (items_of (map view vs)))) (sym rest) ∙ c.loop-entry.invariant.0)
    c.loop-entry.from c.loop-entry.invariant.2 none

pub loop-entry-preserved : goal.loop-entry-preserved
loop-entry-preserved c =
    let rest : c.loop-entry.rest.now ≡ c.in-Some.entry.now ∷ c.in-Some.behind.now = search rules in
    let unit : Some c.in-Some-2.unit ≡ unit_of c.loop-entry.from (view c.in-Some.entry.now) = search rules in
    let more : c.push.new.self.items ≡ c.loop-entry.units.items ++ c.in-Some-2.unit ∷ [] = search rules in
    let count : c.loop-entry.number + 1 + length c.in-Some.behind.now ≡ length c.args.entries.now = grind (arith, common_steps, rest) in (
      entry_turns c.args.root.now c.loop-entry.number (view c.in-Some.entry.now) (items_of (map view c.in-Some.behind.now)) c.loop-entry.units.items _
          (ap (λ vs. behind c.loop-entry.units.items (units_from c.args.root.now c.loop-entry.number (items_of (map view vs)))) (sym rest) ∙ c.loop-entry.invariant.0)
          c.loop-entry.from c.in-Some-2.unit c.push.new.self.items c.loop-entry.invariant.2 unit more,
      count,
      c.in_ok-unit.ensures.same ∙ c.loop-entry.invariant.2,
    )
