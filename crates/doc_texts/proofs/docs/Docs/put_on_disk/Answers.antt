use Rattle.std.proofs.Common.{sym, ap, ◌∙◌, length}
use Rattle.doc_texts.specs.Texts.{with_disk}
use Rattle.doc_texts.proofs.Counts.{files_with_disk}
use Rattle.doc_texts.proofs.Limited.{counted_at, bytes_set_disk}
use Rattle.doc_texts.proofs.Placed.{placed_on_disk}
use Rattle.doc_texts.proofs.docs.Docs.put_on_disk.Goals as goal

pub put_disk-requires : goal.put_disk-requires
put_disk-requires c =
    let t = c.args.self.now in
    let p = c.args.path.now in
    let files = c.in_ok-files.ensures ∙ c.files_with.ensures ∙ sym (files_with_disk t p c.args.text) in
    let bytes = c.in_ok-bytes.ensures ∙ bytes_set_disk t p c.args.text _ _ _ c.total.ensures.bytes c.disk_len.ensures.size (ap length c.as_str.ensures.text) in
    counted_at _ _ (ap (λ k. with_disk t k c.args.text) (sym c.in_ok-key.ensures)) (record { counted = files; summed = bytes })

pub returns : goal.returns
returns c = placed_on_disk c.args.self.now _ c.args.path.now c.args.text c.requires (c.in_ok-put_disk.ensures.ok ∙ ap (λ k. with_disk c.args.self.now k c.args.text) c.in_ok-key.ensures)
