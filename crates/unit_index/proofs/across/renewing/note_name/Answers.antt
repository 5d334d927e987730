use Rattle.std.proofs.Common.{rules, ◌≡◌, false}
use Rattle.unit_index.specs.declared.exported.Does.TheVariants.{Declares, Defines}
use Rattle.unit_index.specs.Exported.{at}
use Rattle.unit_index.specs.News.{has}
use Rattle.unit_index.proofs.ShiftLemmas.{none_more}
use Rattle.unit_index.proofs.across.renewing.note_name.Goals as goal

pub returns-then-not-has-clause-declared : goal.returns-then-not-has-clause-declared
returns-then-not-has-clause-declared c = λ q inside.
    let out : has c.args.names.now c.args.export.now.name ≡ false = search rules in
    none_more (has c.args.names.now) Declares c.args.path.now c.args.tags.now q c.args.export.now (at c.args.firsts.now.declared q) out inside

pub returns-then-not-has-clause-defined : goal.returns-then-not-has-clause-defined
returns-then-not-has-clause-defined c = λ q inside.
    let out : has c.args.names.now c.args.export.now.name ≡ false = search rules in
    none_more (has c.args.names.now) Defines c.args.path.now c.args.tags.now q c.args.export.now (at c.args.firsts.now.defined q) out inside
