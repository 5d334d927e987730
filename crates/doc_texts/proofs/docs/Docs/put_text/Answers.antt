use Rattle.std.proofs.Common.{Some, None, is_some, sym, ap, ◌∙◌, w32, to_z-of_z}
use Rattle.doc_texts.specs.Texts.{with_open}
use Rattle.doc_texts.proofs.Found.{open_is, open_put}
use Rattle.doc_texts.proofs.Dropped.{open_again}
use Rattle.doc_texts.proofs.Limited.{same_version, counted_at, if_some_at, if_some_from}
use Rattle.doc_texts.proofs.docs.Docs.put_text.Goals as goal

pub invariant_of-self : goal.invariant_of-self
invariant_of-self c =
    let follows = c.get_mut.follows.holds c.set.new.self in
    let found = open_is c.self.inside c.args.self.now c.self.view_is c.args.path.now (Some c.in-Some.document.now) c.in-Some.ensures.value in
    let puts = open_put c.self.inside c.args.self.now c.self.view_is c.args.path.now (c.get_mut.follows.lender c.set.new.self) c.set.new.self (follows.3 (ap is_some (sym c.in-Some.ensures.value))).0 in
    let document = c.set.ensures ∙ same_version c.in-Some.document.now.uri c.args.text _ _ (to_z-of_z {w = w32} c.ranges.version) in
    let k = counted_at _ _ c.self.view_is c.self.invariant in
    let summed = if_some_from _ _ _ found c.requires in
    counted_at _ _ (ap (with_open c.args.self.now c.args.path.now) (sym document) ∙ sym puts) (open_again c.args.self.now c.args.path.now _ _ k c.in-Some.document.now _ (sym found) c.args.bytes summed)

pub returns-in-Some : goal.returns-in-Some
returns-in-Some c =
    let follows = c.get_mut.follows.holds c.set.new.self in
    let found = open_is c.self.inside c.args.self.now c.self.view_is c.args.path.now (Some c.in-Some.document.now) c.in-Some.ensures.value in
    let puts = open_put c.self.inside c.args.self.now c.self.view_is c.args.path.now (c.get_mut.follows.lender c.set.new.self) c.set.new.self (follows.3 (ap is_some (sym c.in-Some.ensures.value))).0 in
    let document = c.set.ensures ∙ same_version c.in-Some.document.now.uri c.args.text _ _ (to_z-of_z {w = w32} c.ranges.version) in
    if_some_at _ _ _ found (puts ∙ ap (with_open c.args.self.now c.args.path.now) document)

pub returns-in_default : goal.returns-in_default
returns-in_default c = if_some_at _ None _ (open_is c.self.inside c.args.self.now c.self.view_is c.args.path.now None c.in_default.ensures.value) tt
