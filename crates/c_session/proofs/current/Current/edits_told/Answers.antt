use Rattle.std.proofs.Common.{map, flat_map, ap, sym, subst, ◌∙◌}
use Rattle.std.specs.List.{AllByRecursion}
use Rattle.std.specs.List.Sorted.{IsStrictlySortedBy}
use Rattle.serde_json.specs.Written.{compact_text}
use Rattle.doc_texts.specs.Edited.{Stand}
use Rattle.doc_texts.specs.declared.ranges.TextEdits.{TextEdits}
use Rattle.lsp_answers.specs.Renames.{edits_data}
use Rattle.plain_mean.specs.Given.{text_in}
use Rattle.plain_mean.specs.Ranges.{plain, ranges_of}
use Rattle.rename_core.specs.Classes.{tok_cmp}
use Rattle.c_session.specs.Renames.{located_in}
use Rattle.c_session.proofs.Placing.{all_stand}
use Rattle.c_session.proofs.Settling.{edits_written}
use Rattle.c_session.proofs.current.Current.edits_told.Goals as goal

pub located_edits-requires : goal.located_edits-requires
located_edits-requires c =
    subst (AllByRecursion (λ (e : TextEdits). Stand (text_in c.args.self.now.docs e.path) 0 e.ranges.items)) (sym c.as_slice-2.ensures.value)
    (all_stand c.args.self.now.docs c.as_slice.result.now c.in_ok-made.made.items c.in_ok-made.ensures.edits
    (c.in_ok-made.ensures.can c.requires.short (subst (IsStrictlySortedBy tok_cmp) (sym c.as_slice.ensures) c.requires.order)))

pub returns : goal.returns
returns c =
    edits_written c.args.self.now.docs c.args.self.now.encoding c.args.id.now c.args.renamed.now (map plain c.in_ok-made.made.items) c.in_ok-shown.shown.items c.in_ok-text.text c.in_ok-bytes.bytes.items
    (c.in_ok-made.ensures.edits ∙ ap (ranges_of c.args.self.now.docs) c.as_slice.ensures)
    (c.in_ok-shown.ensures ∙ ap (λ es. flat_map (located_in c.args.self.now.docs c.args.self.now.encoding) (map plain es)) c.as_slice-2.ensures.value)
    (c.in_ok-text.ensures ∙ (λ i. compact_text (edits_data (c.as_str.ensures i) (c.as_slice-3.ensures.value i)))) c.in_ok-bytes.ensures
