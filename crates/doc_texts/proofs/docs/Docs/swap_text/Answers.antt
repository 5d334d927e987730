use Rattle.std.proofs.Common.{Some, None, is_some, sym, ap, ◌∙◌}
use Rattle.doc_texts.specs.Texts.{with_open}
use Rattle.doc_texts.proofs.Found.{open_is, open_put}
use Rattle.doc_texts.proofs.Dropped.{open_again}
use Rattle.doc_texts.proofs.Limited.{counted_at, if_some_at, if_some_from}
use Rattle.doc_texts.proofs.docs.Docs.swap_text.Goals as goal

pub invariant_of-self : goal.invariant_of-self
invariant_of-self c =
    let follows = c.get_mut.follows.holds c.set_text.new.self in
    let found = open_is c.self.inside c.args.self.now c.self.view_is c.args.path.now (Some c.in-Some.document.now) c.in-Some.ensures.value in
    let puts = open_put c.self.inside c.args.self.now c.self.view_is c.args.path.now (c.get_mut.follows.lender c.set_text.new.self) c.set_text.new.self (follows.3 (ap is_some (sym c.in-Some.ensures.value))).0 in
    let k = counted_at _ _ c.self.view_is c.self.invariant in
    let summed = if_some_from _ _ _ found c.requires in
    counted_at _ _ (ap (with_open c.args.self.now c.args.path.now) (sym c.set_text.ensures) ∙ sym puts) (open_again c.args.self.now c.args.path.now _ _ k c.in-Some.document.now _ (sym found) c.args.bytes summed)

pub returns-in-Some : goal.returns-in-Some
returns-in-Some c =
    let follows = c.get_mut.follows.holds c.set_text.new.self in
    let found = open_is c.self.inside c.args.self.now c.self.view_is c.args.path.now (Some c.in-Some.document.now) c.in-Some.ensures.value in
    let puts = open_put c.self.inside c.args.self.now c.self.view_is c.args.path.now (c.get_mut.follows.lender c.set_text.new.self) c.set_text.new.self (follows.3 (ap is_some (sym c.in-Some.ensures.value))).0 in
    if_some_at _ _ _ found (puts ∙ ap (with_open c.args.self.now c.args.path.now) c.set_text.ensures)

pub returns-in_default : goal.returns-in_default
returns-in_default c = if_some_at _ None _ (open_is c.self.inside c.args.self.now c.self.view_is c.args.path.now None c.in_default.ensures.value) tt
