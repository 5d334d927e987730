use Rattle.std.proofs.Common.{arith, length, refl, sym, ap, ◌∙◌, Ok, w32, to_z-of_z}
use Rattle.std.specs.FinMap.{get}
use Rattle.std.proofs.lemmas.Result.{err_from_is_err_and}
use Rattle.doc_texts.specs.Texts.{OpenText, with_open}
use Rattle.doc_texts.proofs.Counts.{files_with_open}
use Rattle.doc_texts.proofs.Found.{open_size_within}
use Rattle.doc_texts.proofs.Limited.{same_version, if_some_all, if_some_more, beyond, within_limits, taken, bytes_set_open}
use Rattle.doc_texts.proofs.docs.Docs.set_open.Goals as goal

pub overflow_sub-bytes : goal.overflow_sub-bytes
overflow_sub-bytes c = let within = open_size_within c.args.self.now c.args.path.now in omega (arith, within, c.requires, c.total.ensures.bytes)

pub returns-in_err-counts : goal.returns-in_err-counts
returns-in_err-counts c =
    let p = err_from_is_err_and c.from_residual.result c.from_residual.ensures.1 in
    rw (p.1, p.2) (if_some_all (get c.args.self.now.opened c.args.path.now) (λ document.
    let files = c.files_with.ensures ∙ sym (files_with_open c.args.self.now c.args.path.now _) in
    let bytes = bytes_set_open c.args.self.now c.args.path.now _ _ _ _ c.total.ensures.bytes (sym c.requires) (ap length c.as_str.ensures.text) in
    ((λ _. beyond _ _ _ files bytes _ c.in_err-counts.ensures), refl)))

pub put_text-requires : goal.put_text-requires
put_text-requires c = if_some_all (get c.args.self.now.opened c.args.path.now) (λ document.
    let files = c.files_with.ensures ∙ sym (files_with_open c.args.self.now c.args.path.now _) in
    let bytes = bytes_set_open c.args.self.now c.args.path.now _ _ _ _ c.total.ensures.bytes (sym c.requires) (ap length c.as_str.ensures.text) in
    (within_limits _ _ _ files bytes c.in_ok-counts.counts c.in_ok-counts.ensures).counted.summed)

pub returns : goal.returns
returns c = if_some_more (get c.args.self.now.opened c.args.path.now) (λ document kept.
    let d : OpenText = record { uri = document.uri; version = c.args.version; text = c.args.text } in
    let files = c.files_with.ensures ∙ sym (files_with_open c.args.self.now c.args.path.now d) in
    let bytes = bytes_set_open c.args.self.now c.args.path.now d _ _ _ c.total.ensures.bytes (sym c.requires) (ap length c.as_str.ensures.text) in
    let same = ap (with_open c.args.self.now c.args.path.now) (same_version document.uri c.args.text _ _ (sym (to_z-of_z {w = w32} c.ranges.version))) in
    taken _ _ _ (within_limits _ _ _ files bytes c.in_ok-counts.counts c.in_ok-counts.ensures) ∙ ap Ok (same ∙ sym kept)) c.put_text.ensures
