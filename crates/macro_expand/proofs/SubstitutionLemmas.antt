-- A replacement list that is read token by token becomes what `subst` makes of its elements.
use Rattle.std.proofs.Common.{◌≡◌, ℕ, zero, suc, ◌+◌, ◌≤◌, Bool, true, false, ◌&&◌, ◌||◌, not, List, [], ◌∷◌}
use Rattle.std.proofs.Common.{length, drop, refl, ap, sym, ◌∙◌, arith, if◌then◌else◌, subst}
use Rattle.std.proofs.lemmas.Bool.{cases_Bool, true≢false}
use Rattle.std.proofs.Math.Logic.{⊎_elim}
use Rattle.std.proofs.lemmas.List.{append-nil, length-drop}
use Rattle.tok_data.specs.declared.sources.TokId.{TokId}
use Rattle.tok_data.specs.declared.tokens.OutToken.{OutToken}
use Rattle.macro_table.specs.declared.definition.MacroDef.{MacroDef}
use Rattle.macro_expand.specs.declared.types.Marked.{Marked}
use Rattle.macro_expand.specs.declared.types.Progress.{Progress}
use Rattle.macro_expand.specs.declared.types.Outcome.{Outcome}
use Rattle.macro_expand.specs.declared.building.Building.{Building}
use Rattle.macro_expand.specs.declared.building.Part.{Part}
use Rattle.macro_expand.specs.Tokens.{is_paste, begins_paste, plain}
use Rattle.macro_expand.specs.Tokens.{first_spaced, last_of}
use Rattle.macro_expand.specs.Progress.{noted}
use Rattle.macro_expand.specs.Spelling.{string_of, sources}
use Rattle.macro_expand.specs.Ties.Building as build
use Rattle.macro_expand.specs.Ties.Building.{operand, part}
use Rattle.macro_expand.specs.Substitution as meant
use Rattle.macro_expand.specs.Substitution.{Expander, Element, Paste, Quoted, Param, Other}
use Rattle.macro_expand.specs.Substitution.{Output, elements, settled}
use Rattle.macro_expand.specs.Expansion as spec
use Rattle.macro_expand.specs.Ties.Steps as steps
use Rattle.macro_expand.proofs.ItemLemmas.{built, output, ends_empty, joins_is, puts_is}
use Rattle.macro_expand.proofs.ElementLemmas.{operand_of, front_of, paste_next}

glue_is : (sp : Bool) (site : TokId) (e : Element) (o : Output)
    → build.joins_operand site (built sp o) (operand_of e) ≡ built sp (meant.glue site e o)
glue_is sp site (Paste t) o = joins_is sp site (noted [] o.progress) (first_spaced t.space_before (plain t ∷ [])) o.items
glue_is sp site (Quoted t arg) o = joins_is sp site (noted (sources arg) o.progress) (first_spaced t.space_before (string_of t arg ∷ [])) o.items
glue_is sp site (Param t arg) o = joins_is sp site (noted [] o.progress) (first_spaced t.space_before arg) o.items
glue_is sp site (Other t) o = joins_is sp site (noted [] o.progress) (first_spaced t.space_before (plain t ∷ [])) o.items

not_twice : (space begun : Bool) → (space && not (not begun)) ≡ (space && begun)
not_twice space true = refl
not_twice space false = refl

put_at_end : (sp space : Bool) (toks : List TokId) (ts : List Marked) (o : Output)
    → build.puts (build.space_of (built sp o) space) ts (build.with_noted toks (built sp o))
    ≡ built sp (meant.puts space ts (output (noted toks o.progress) o.items))
put_at_end sp space toks ts o =
    ap (λ (own : Bool). build.puts ((settled sp o.items).1 || own) ts (build.with_noted toks (built sp o)))
    (not_twice space (meant.is_begun o.items))
    ∙ puts_is sp (space && meant.is_begun o.items) (noted toks o.progress) o.items ts (settled sp o.items).1
    (ends_empty (last_of o.items)) (not (meant.is_begun o.items))

outcome_at_end : (sp space : Bool) (made : Outcome) (o : Output)
    → build.puts_outcome (build.space_of (built sp o) space) (built sp o) made
    ≡ built sp (meant.puts_outcome space o made)
outcome_at_end sp space made o =
    ap (λ (own : Bool). build.puts_outcome ((settled sp o.items).1 || own) (built sp o) made)
    (not_twice space (meant.is_begun o.items))
    ∙ puts_is sp (space && meant.is_begun o.items) made.progress o.items made.tokens (settled sp o.items).1
    (ends_empty (last_of o.items)) (not (meant.is_begun o.items))

-- an element that `##` doesn't join to what stands before it
abbrev placed : Expander → Element → Bool → Output → Output
placed again (Param t arg) raw o = if raw then meant.puts_written (Param t arg) o else meant.puts_expanded again t arg o
placed again e raw o = meant.puts_written e o

placed_is : (sp : Bool) (again : Expander) (e : Element) (raw : Bool) (o : Output)
    → build.puts_operand again (built sp o) (operand_of e) raw ≡ built sp (placed again e raw o)
placed_is sp again (Paste t) raw o = put_at_end sp t.space_before [] (plain t ∷ []) o
placed_is sp again (Quoted t arg) raw o = put_at_end sp t.space_before (sources arg) (string_of t arg ∷ []) o
placed_is sp again (Param t arg) true o = put_at_end sp t.space_before [] arg o
placed_is sp again (Param t arg) false o = outcome_at_end sp t.space_before (again o.progress arg) o
placed_is sp again (Other t) raw o = put_at_end sp t.space_before [] (plain t ∷ []) o

placed_alike : (again : Expander) (def : MacroDef) (args : List (List Marked)) (e : Element) (ts : List OutToken)
    (o : Output) → placed again e (begins_paste ts) o
    ≡ placed again e (meant.paste_follows (elements def args (drop (operand_of e).more ts))) o
placed_alike again def args (Paste t) ts o = refl
placed_alike again def args (Quoted t arg) ts o = refl
placed_alike again def args (Param t arg) ts o =
    ap (λ (raw : Bool). placed again (Param t arg) raw o) (paste_next def args ts)
placed_alike again def args (Other t) ts o = refl

step_is : (again : Expander) (site : TokId) (o : Output) (e : Element) (es : List Element)
    → meant.paste_follows (e ∷ []) ≡ false
    → meant.substituted again site (placed again e (meant.paste_follows es) o) es ≡ meant.substituted again site o (e ∷ es)
step_is again site o (Paste t) es plain = absurd (true≢false plain)
step_is again site o (Quoted t arg) es plain = refl
step_is again site o (Param t arg) es plain = refl
step_is again site o (Other t) es plain = refl

-- tokens that are read already
skips : (again : Expander) (def : MacroDef) (args : List (List Marked)) (site : TokId) (skip : ℕ) (b : Building)
    (ts : List OutToken)
    → build.substituted again def args site skip b ts ≡ build.substituted again def args site 0 b (drop skip ts)
skips again def args site zero b ts = refl
skips again def args site (suc skip) b [] = refl
skips again def args site (suc skip) b (t ∷ ts) = skips again def args site skip b ts

-- a replacement list, by a bound on its length
abbrev Becomes : Bool → Expander → MacroDef → List (List Marked) → TokId → Output → List OutToken → Type 0
Becomes sp again def args site o ts =
    build.substituted again def args site 0 (built sp o) ts
    ≡ built sp (meant.substituted again site o (elements def args ts))

-- behind what one part of it made
part_becomes : (sp : Bool) (again : Expander) (def : MacroDef) (args : List (List Marked)) (site : TokId) (o o' : Output)
    (t : OutToken) (ts : List OutToken) (p : Part) → part again def args site (built sp o) t ts ≡ p
    → p.built ≡ built sp o' → Becomes sp again def args site o' (drop p.more ts)
    → meant.substituted again site o' (elements def args (drop p.more ts))
    ≡ meant.substituted again site o (elements def args (t ∷ ts))
    → Becomes sp again def args site o (t ∷ ts)
part_becomes sp again def args site o o' t ts p part_is built_is rest same =
    ap (λ (q : Part). build.substituted again def args site q.more q.built ts) part_is
    ∙ ap (λ (b : Building). build.substituted again def args site p.more b ts) built_is
    ∙ skips again def args site p.more (built sp o') ts
    ∙ rest
    ∙ ap (built sp) same

-- a part that `##` doesn't join to what stands before it
plain_becomes : (sp : Bool) (again : Expander) (def : MacroDef) (args : List (List Marked)) (site : TokId) (o : Output)
    (t : OutToken) (ts : List OutToken) → is_paste t ≡ false
    → ((o' : Output) (us : List OutToken) → length us ≤ length ts → Becomes sp again def args site o' us)
    → Becomes sp again def args site o (t ∷ ts)
unfolding part
plain_becomes sp again def args site o t ts plain rest =
    let front = front_of def args t ts in
    let e : Element = front.element in
    let behind : List OutToken = drop (operand_of e).more ts in
    let o' : Output = placed again e (meant.paste_follows (elements def args behind)) o in
    let shorter : length behind ≤ length ts = rw (length-drop (operand_of e).more ts) (omega arith) in
    part_becomes sp again def args site o o' t ts (build.puts_part again (built sp o) ts (operand_of e))
    (ap (λ (b : Bool). if b then build.pastes def args site (built sp o) t ts
    else build.puts_part again (built sp o) ts (operand def args t ts)) plain
    ∙ ap (build.puts_part again (built sp o) ts) front.operand_is)
    (placed_is sp again e (begins_paste ts) o ∙ ap (built sp) (placed_alike again def args e ts o))
    (rest o' behind shorter)
    (step_is again site o e (elements def args behind) (front.plainly plain)
    ∙ ap (meant.substituted again site o) (sym front.elements_are))

nothing_noted : (b : Building) → build.with_noted [] b ≡ b
nothing_noted b =
    ap (λ (toks : List TokId). (let all : Building = record b { progress = record b.progress { spelled = toks } } in all))
    (append-nil b.progress.spelled)

paste_elements : (def : MacroDef) (args : List (List Marked)) (t : OutToken) (ts : List OutToken) → is_paste t ≡ true
    → elements def args (t ∷ ts) ≡ Paste t ∷ elements def args ts
paste_elements def args t ts paste =
    let front = front_of def args t ts in
    front.elements_are
    ∙ ap (λ (e : Element). e ∷ elements def args (drop (operand_of e).more ts)) (front.paste paste)

-- `##`
paste_becomes : (sp : Bool) (again : Expander) (def : MacroDef) (args : List (List Marked)) (site : TokId) (o : Output)
    (t : OutToken) (ts : List OutToken) → is_paste t ≡ true
    → ((o' : Output) (us : List OutToken) → length us ≤ length ts → Becomes sp again def args site o' us)
    → Becomes sp again def args site o (t ∷ ts)
unfolding part
paste_becomes sp again def args site o t [] paste rest =
    part_becomes sp again def args site o (meant.puts_written (Paste t) o) t []
    (build.pastes def args site (built sp o) t [])
    (ap (λ (b : Bool). if b then build.pastes def args site (built sp o) t []
    else build.puts_part again (built sp o) [] (operand def args t [])) paste)
    (ap (build.puts (build.space_of (built sp o) t.space_before) (plain t ∷ [])) (sym (nothing_noted (built sp o)))
    ∙ put_at_end sp t.space_before [] (plain t ∷ []) o)
    refl
    (ap (meant.substituted again site o) (sym (paste_elements def args t [] paste)))
paste_becomes sp again def args site o t (u ∷ us) paste rest =
    let right = front_of def args u us in
    let e : Element = right.element in
    let more : ℕ = (operand_of e).more in
    let behind : List OutToken = drop more us in
    let o' : Output = meant.glue site e o in
    let next : more + 1 ≡ suc more = omega arith in
    let shorter : length behind ≤ length (u ∷ us) = rw (length-drop more us) (omega arith) in
    part_becomes sp again def args site o o' t (u ∷ us) (build.joins_part site (built sp o) (operand_of e))
    (ap (λ (b : Bool). if b then build.pastes def args site (built sp o) t (u ∷ us)
    else build.puts_part again (built sp o) (u ∷ us) (operand def args t (u ∷ us))) paste
    ∙ ap (build.joins_part site (built sp o)) right.operand_is)
    (glue_is sp site e o)
    (subst (λ (k : ℕ). Becomes sp again def args site o' (drop k (u ∷ us))) (sym next) (rest o' behind shorter))
    (ap (λ (k : ℕ). meant.substituted again site o' (elements def args (drop k (u ∷ us)))) next
    ∙ ap (λ (es : List Element). meant.substituted again site o (Paste t ∷ es)) (sym right.elements_are)
    ∙ ap (meant.substituted again site o) (sym (paste_elements def args t (u ∷ us) paste)))

becomes : (sp : Bool) (again : Expander) (def : MacroDef) (args : List (List Marked)) (site : TokId) (n : ℕ) (o : Output)
    (ts : List OutToken) → length ts ≤ n → Becomes sp again def args site o ts
becomes sp again def args site n o [] within = refl
becomes sp again def args site zero o (t ∷ ts) within = let no : ⊥ = omega (arith, within) in absurd no
becomes sp again def args site (suc n) o (t ∷ ts) within =
    let rest : (o' : Output) (us : List OutToken) → length us ≤ length ts → Becomes sp again def args site o' us =
    λ o' us h. becomes sp again def args site n o' us (omega (arith, within, h)) in
    ⊎_elim
    (λ paste. paste_becomes sp again def args site o t ts paste rest)
    (λ plain. plain_becomes sp again def args site o t ts plain rest)
    (cases_Bool (is_paste t))

-- what replaces a name
pub replaced_as : (again : Expander) (p : Progress) (t : Marked) (def : MacroDef) (args : List (List Marked))
    (names : List (List ℕ)) (ts : List Marked)
    → spec.again_with again t names ts (spec.built again p t def args)
    ≡ steps.again_with again t names ts (steps.built again p t def args)
replaced_as again p t def args names ts =
    ap (steps.again_with again t names ts)
    (sym (becomes t.token.space_before again def args t.token.site (length def.body) (output p []) def.body
    (omega arith)))
