use Rattle.std.proofs.Common.{refl, sym, ap, ap₂, ◌∙◌, Ok}
use Rattle.std.proofs.lemmas.Result.{err_from_is_err_and}
use Rattle.doc_texts.specs.Texts.{with_disk}
use Rattle.doc_texts.proofs.Counts.{files_with_disk}
use Rattle.doc_texts.proofs.Limited.{counted_at, beyond, within_limits, taken, bytes_set_disk}
use Rattle.doc_texts.proofs.docs.Docs.set_disk.Goals as goal

pub returns-in_err-counts : goal.returns-in_err-counts
returns-in_err-counts c =
    let files = c.files_with.ensures ∙ sym (files_with_disk c.args.self.now c.args.path.now c.args.text.now) in
    let bytes = bytes_set_disk c.args.self.now c.args.path.now c.args.text.now _ _ _ c.total.ensures.bytes c.disk_len.ensures.size refl in
    let p = err_from_is_err_and c.from_residual.result c.from_residual.ensures.1 in
    rw (p.1, p.2) ((λ _. beyond _ _ _ files bytes _ c.in_err-counts.ensures), refl)

pub put_disk-requires : goal.put_disk-requires
put_disk-requires c =
    let files = c.files_with.ensures ∙ sym (files_with_disk c.args.self.now c.args.path.now c.args.text.now) in
    let bytes = bytes_set_disk c.args.self.now c.args.path.now c.args.text.now _ _ _ c.total.ensures.bytes c.disk_len.ensures.size refl in
    let same = ap₂ (with_disk c.args.self.now) (sym c.in_ok-key.ensures) (sym c.in_ok-kept.ensures) in
    counted_at _ _ same (within_limits _ _ _ files bytes c.in_ok-counts.counts c.in_ok-counts.ensures).counted

pub returns-in_err-put_disk : goal.returns-in_err-put_disk
returns-in_err-put_disk c =
    let p = err_from_is_err_and c.from_residual-in_err-put_disk.result c.from_residual-in_err-put_disk.ensures.1 in
    rw (p.1, p.2) ((λ apart. absurd (apart refl)), c.in_err-put_disk.ensures.kept)

pub returns : goal.returns
returns c =
    let files = c.files_with.ensures ∙ sym (files_with_disk c.args.self.now c.args.path.now c.args.text.now) in
    let bytes = bytes_set_disk c.args.self.now c.args.path.now c.args.text.now _ _ _ c.total.ensures.bytes c.disk_len.ensures.size refl in
    let same = ap₂ (with_disk c.args.self.now) (sym c.in_ok-key.ensures) (sym c.in_ok-kept.ensures) in
    taken _ _ _ (within_limits _ _ _ files bytes c.in_ok-counts.counts c.in_ok-counts.ensures) ∙ ap Ok (same ∙ sym c.in_ok-put_disk.ensures.ok)
