use Rattle.std.proofs.Common.{◌∙◌, Some, None}
use Rattle.std.proofs.lemmas.Bool.Decides.{Decides-eqb}
use Rattle.std.proofs.lemmas.Slice.Eq.{strip_prefix_is}
use Rattle.uri_paths.proofs.Roots.{under_all, is_root, no_root, behind_empty, behind_next, behind_none}
use Rattle.uri_paths.proofs.place.under.Goals as goal

pub returns-then-eq : goal.returns-then-eq
returns-then-eq c = under_all c.args.root.now c.args.path.now (is_root c.args.root.now _ _ c.as_str.ensures.text c.eq.ensures c.if-eq.true)

pub returns-in-Some-empty : goal.returns-in-Some-empty
returns-in-Some-empty c =
    let parted = strip_prefix_is Decides-eqb c.as_bytes.result.now c.as_bytes-2.result.now (Some c.in-Some-empty.field-0) c.in-Some-empty.ensures.cases in
    behind_empty c.args.root.now c.args.path.now _ _ _ (c.as_bytes.ensures.value ∙ c.as_str-2.ensures.text) (c.as_bytes-2.ensures.value ∙ c.as_str-3.ensures.text) parted c.in-Some-empty.len_below

pub returns-in-Some-len1-up : goal.returns-in-Some-len1-up
returns-in-Some-len1-up c =
    let parted = strip_prefix_is Decides-eqb c.as_bytes.result.now c.as_bytes-2.result.now (Some c.in-Some-len1-up.field-0) c.in-Some-len1-up.ensures.cases in
    behind_next c.args.root.now c.args.path.now _ _ _ c.as_str.ensures.path c.as_str-2.ensures.path (no_root c.args.root.now _ _ c.as_str.ensures.text c.eq.ensures c.if-eq.false) (c.as_bytes.ensures.value ∙ c.as_str-2.ensures.text) (c.as_bytes-2.ensures.value ∙ c.as_str-3.ensures.text) parted c.in-Some-len1-up.len_at_least

pub returns-in-None : goal.returns-in-None
returns-in-None c =
    let none = strip_prefix_is Decides-eqb c.as_bytes.result.now c.as_bytes-2.result.now None c.in-None.ensures.cases in
    behind_none c.args.root.now c.args.path.now _ _ c.as_str.ensures.path c.as_str-2.ensures.path (no_root c.args.root.now _ _ c.as_str.ensures.text c.eq.ensures c.if-eq.false) (c.as_bytes.ensures.value ∙ c.as_str-2.ensures.text) (c.as_bytes-2.ensures.value ∙ c.as_str-3.ensures.text) none
