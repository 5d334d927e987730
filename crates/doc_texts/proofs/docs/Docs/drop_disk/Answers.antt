use Rattle.std.proofs.Common.{Some, length, is_some, refl, sym, ap, ◌∙◌}
use Rattle.doc_texts.proofs.Found.{disk_is, open_is, disk_taken}
use Rattle.doc_texts.proofs.Dropped.{none_is, disk_bytes, disk_files, disk_dropped, hidden_dropped}
use Rattle.doc_texts.proofs.Limited.{counted_at}
use Rattle.doc_texts.proofs.docs.Docs.drop_disk.Goals as goal

pub returns-in_default : goal.returns-in_default
returns-in_default c = disk_taken c.self.inside c.args.self.now c.self.view_is c.args.path.now c.remove.new.self c.remove.ensures.updates.0

pub overflow_sub-self : goal.overflow_sub-self
overflow_sub-self c =
    let k = counted_at _ _ c.self.view_is c.self.invariant in
    let found = sym (disk_is c.self.inside c.args.self.now c.self.view_is c.args.path.now (Some c.in-Some.text) c.in-Some.ensures.value) in
    disk_bytes c.args.self.now c.args.path.now _ _ k c.in-Some.text found _ (ap length c.as_str.ensures.text)

pub overflow_sub-self-then-not-contains_key : goal.overflow_sub-self-then-not-contains_key
overflow_sub-self-then-not-contains_key c =
    let k = counted_at _ _ c.self.view_is c.self.invariant in
    let found = sym (disk_is c.self.inside c.args.self.now c.self.view_is c.args.path.now (Some c.in-Some.text) c.in-Some.ensures.value) in
    disk_files c.args.self.now c.args.path.now _ _ k c.in-Some.text found _ (ap length c.as_str.ensures.text)

pub invariant_of-self-then-not-contains_key : goal.invariant_of-self-then-not-contains_key
invariant_of-self-then-not-contains_key c =
    let k = counted_at _ _ c.self.view_is c.self.invariant in
    let found = sym (disk_is c.self.inside c.args.self.now c.self.view_is c.args.path.now (Some c.in-Some.text) c.in-Some.ensures.value) in
    let none = none_is _ (ap is_some (open_is c.self.inside c.args.self.now c.self.view_is c.args.path.now _ refl) ∙ sym c.if-not-contains_key.ensures) in
    counted_at _ _ (sym (disk_taken c.self.inside c.args.self.now c.self.view_is c.args.path.now c.remove.new.self c.remove.ensures.updates.0)) (disk_dropped c.args.self.now c.args.path.now _ _ k c.in-Some.text found _ (ap length c.as_str.ensures.text) none)

pub returns-then-not-contains_key : goal.returns-then-not-contains_key
returns-then-not-contains_key c = disk_taken c.self.inside c.args.self.now c.self.view_is c.args.path.now c.remove.new.self c.remove.ensures.updates.0

pub invariant_of-self-else-not-contains_key : goal.invariant_of-self-else-not-contains_key
invariant_of-self-else-not-contains_key c =
    let k = counted_at _ _ c.self.view_is c.self.invariant in
    let found = sym (disk_is c.self.inside c.args.self.now c.self.view_is c.args.path.now (Some c.in-Some.text) c.in-Some.ensures.value) in
    let some = ap is_some (open_is c.self.inside c.args.self.now c.self.view_is c.args.path.now _ refl) ∙ sym c.if-not-contains_key.ensures in
    counted_at _ _ (sym (disk_taken c.self.inside c.args.self.now c.self.view_is c.args.path.now c.remove.new.self c.remove.ensures.updates.0)) (hidden_dropped c.args.self.now c.args.path.now _ _ k c.in-Some.text found _ (ap length c.as_str.ensures.text) some)

pub returns : goal.returns
returns c = disk_taken c.self.inside c.args.self.now c.self.view_is c.args.path.now c.remove.new.self c.remove.ensures.updates.0
