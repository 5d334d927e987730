use Rattle.std.proofs.Common.{to_z-of_z, w32, refl, sym, ap, ap₂, ◌∙◌, Ok}
use Rattle.std.proofs.lemmas.Result.{err_from_is_err_and}
use Rattle.doc_texts.specs.Texts.{OpenText, with_open}
use Rattle.doc_texts.proofs.Counts.{files_with_open}
use Rattle.doc_texts.proofs.Limited.{same_version, counted_at, beyond, within_limits, taken, bytes_add_open}
use Rattle.doc_texts.proofs.docs.Docs.add_open.Goals as goal

pub returns-in_err-counts : goal.returns-in_err-counts
returns-in_err-counts c =
    let d : OpenText = (record { uri = c.args.uri.now; version = c.args.version; text = c.args.text.now }) in
    let files = c.files_with.ensures ∙ sym (files_with_open c.args.self.now c.args.path.now d) in
    let bytes = bytes_add_open c.args.self.now c.args.path.now d _ _ c.total.ensures.bytes c.requires.shut refl in
    let p = err_from_is_err_and c.from_residual.result c.from_residual.ensures.1 in
    rw (p.1, p.2) ((λ _. beyond _ _ _ files bytes _ c.in_err-counts.ensures), refl)

pub put_open-requires : goal.put_open-requires
put_open-requires c =
    let d : OpenText = (record { uri = c.args.uri.now; version = c.args.version; text = c.args.text.now }) in
    let files = c.files_with.ensures ∙ sym (files_with_open c.args.self.now c.args.path.now d) in
    let bytes = bytes_add_open c.args.self.now c.args.path.now d _ _ c.total.ensures.bytes c.requires.shut refl in
    let same = ap₂ (with_open c.args.self.now) (sym c.in_ok-key.ensures) (same_version c.args.uri.now c.args.text.now _ _ (sym (to_z-of_z {w = w32} c.ranges.version)) ∙ sym c.in_ok-document.ensures) in
    counted_at _ _ same (within_limits _ _ _ files bytes c.in_ok-counts.counts c.in_ok-counts.ensures).counted

pub returns-in_err-put_open : goal.returns-in_err-put_open
returns-in_err-put_open c =
    let p = err_from_is_err_and c.from_residual-in_err-put_open.result c.from_residual-in_err-put_open.ensures.1 in
    rw (p.1, p.2) ((λ apart. absurd (apart refl)), c.in_err-put_open.ensures.kept)

pub returns : goal.returns
returns c =
    let d : OpenText = (record { uri = c.args.uri.now; version = c.args.version; text = c.args.text.now }) in
    let files = c.files_with.ensures ∙ sym (files_with_open c.args.self.now c.args.path.now d) in
    let bytes = bytes_add_open c.args.self.now c.args.path.now d _ _ c.total.ensures.bytes c.requires.shut refl in
    let same = ap₂ (with_open c.args.self.now) (sym c.in_ok-key.ensures) (same_version c.args.uri.now c.args.text.now _ _ (sym (to_z-of_z {w = w32} c.ranges.version)) ∙ sym c.in_ok-document.ensures) in
    taken _ _ _ (within_limits _ _ _ files bytes c.in_ok-counts.counts c.in_ok-counts.ensures) ∙ ap Ok (same ∙ sym c.in_ok-put_open.ensures.ok)
