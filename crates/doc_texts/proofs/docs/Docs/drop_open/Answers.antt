use Rattle.std.proofs.Common.{Some, length, is_some, refl, sym, ap, ◌∙◌}
use Rattle.doc_texts.proofs.Found.{disk_is, open_is, open_taken}
use Rattle.doc_texts.proofs.Dropped.{none_is, open_bytes, open_files, open_dropped, open_uncovers}
use Rattle.doc_texts.proofs.Limited.{counted_at}
use Rattle.doc_texts.proofs.docs.Docs.drop_open.Goals as goal

pub returns-in_default : goal.returns-in_default
returns-in_default c = open_taken c.self.inside c.args.self.now c.self.view_is c.args.path.now c.remove.new.self c.remove.ensures.updates.0

pub overflow_sub-self : goal.overflow_sub-self
overflow_sub-self c =
    let k = counted_at _ _ c.self.view_is c.self.invariant in
    let found = sym (open_is c.self.inside c.args.self.now c.self.view_is c.args.path.now (Some c.in-Some.document) c.in-Some.ensures.value) in
    open_bytes c.args.self.now c.args.path.now _ _ k c.in-Some.document found _ (ap length c.text.ensures.text)

pub overflow_sub-self-then-not-contains_key : goal.overflow_sub-self-then-not-contains_key
overflow_sub-self-then-not-contains_key c =
    let k = counted_at _ _ c.self.view_is c.self.invariant in
    let found = sym (open_is c.self.inside c.args.self.now c.self.view_is c.args.path.now (Some c.in-Some.document) c.in-Some.ensures.value) in
    open_files c.args.self.now c.args.path.now _ _ k c.in-Some.document found _ (ap length c.text.ensures.text)

pub invariant_of-self-then-not-contains_key : goal.invariant_of-self-then-not-contains_key
invariant_of-self-then-not-contains_key c =
    let k = counted_at _ _ c.self.view_is c.self.invariant in
    let found = sym (open_is c.self.inside c.args.self.now c.self.view_is c.args.path.now (Some c.in-Some.document) c.in-Some.ensures.value) in
    let none = none_is _ (ap is_some (disk_is c.self.inside c.args.self.now c.self.view_is c.args.path.now _ refl) ∙ sym c.if-not-contains_key.ensures) in
    counted_at _ _ (sym (open_taken c.self.inside c.args.self.now c.self.view_is c.args.path.now c.remove.new.self c.remove.ensures.updates.0)) (open_dropped c.args.self.now c.args.path.now _ _ k c.in-Some.document found _ (ap length c.text.ensures.text) none)

pub returns-then-not-contains_key : goal.returns-then-not-contains_key
returns-then-not-contains_key c = open_taken c.self.inside c.args.self.now c.self.view_is c.args.path.now c.remove.new.self c.remove.ensures.updates.0

pub invariant_of-self-else-not-contains_key : goal.invariant_of-self-else-not-contains_key
invariant_of-self-else-not-contains_key c =
    let k = counted_at _ _ c.self.view_is c.self.invariant in
    let found = sym (open_is c.self.inside c.args.self.now c.self.view_is c.args.path.now (Some c.in-Some.document) c.in-Some.ensures.value) in
    let some = ap is_some (disk_is c.self.inside c.args.self.now c.self.view_is c.args.path.now _ refl) ∙ sym c.if-not-contains_key.ensures in
    counted_at _ _ (sym (open_taken c.self.inside c.args.self.now c.self.view_is c.args.path.now c.remove.new.self c.remove.ensures.updates.0)) (open_uncovers c.args.self.now c.args.path.now _ _ k c.in-Some.document found _ (ap length c.text.ensures.text) some)

pub returns : goal.returns
returns c = open_taken c.self.inside c.args.self.now c.self.view_is c.args.path.now c.remove.new.self c.remove.ensures.updates.0
