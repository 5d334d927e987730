-- A replacement list that is built of tokens with numbers, as one of tokens with the sets that these stand for.
use Rattle.std.proofs.Common.{◌≡◌, ℕ, ◌+◌, ◌==◌, Bool, true, false, ◌&&◌, not, List, [], ◌∷◌, ◌++◌, length, ap, sym}
use Rattle.std.proofs.Common.{◌∙◌, if◌then◌else◌, Option}
use Rattle.std.specs.Prelude.{Some, None, option_map}
use Rattle.std.proofs.lemmas.List.{append-nil, map-append}
use Rattle.tok_data.specs.declared.sources.TokId.{TokId}
use Rattle.tok_data.specs.declared.tokens.OutToken.{OutToken}
use Rattle.macro_table.specs.declared.definition.MacroDef.{MacroDef}
use Rattle.macro_expand.specs.declared.types.Marked.{Marked}
use Rattle.macro_expand.specs.declared.types.Progress.{Progress}
use Rattle.macro_expand.specs.declared.operands.Operand.{Operand}
use Rattle.macro_expand.specs.declared.building.Building.{Building}
use Rattle.macro_expand.specs.declared.building.Part.{Part}
use Rattle.macro_expand.specs.Ties.Codes.{Names}
use Rattle.macro_expand.specs.Ties.Numbers.{real, reals, real_args, real_operand, real_building}
use Rattle.macro_expand.specs.Tokens as token
use Rattle.macro_expand.specs.Tokens.{is_paste, begins_paste, plain, last_of}
use Rattle.macro_expand.specs.Pasting.{pasted}
use Rattle.macro_expand.specs.Progress.{faulty}
use Rattle.macro_expand.specs.Ties.Machine as work
use Rattle.macro_expand.specs.Ties.Building as build
use Rattle.macro_expand.specs.Ties.Building.{joins, operand, part}
use Rattle.macro_expand.specs.Substitution.{Expander, all_marked, marked_by}
use Rattle.macro_expand.proofs.ListLemmas.{map_snoc}
use Rattle.macro_expand.proofs.NumberLemmas.{last_real, puts_real, plain_real, operand_real, first_spaced_real}
use Rattle.macro_expand.proofs.NumberLemmas.{passed_real}

-- tokens that are marked, from the last to the first
pub marked_turns : (f : Names → Names) (site : TokId) (names : Names) (front front' : List Marked) (t m : Marked)
    (items items' made : List Marked) → front ≡ front' ++ t ∷ [] → items' ≡ m ∷ items
    → real f m ≡ marked_by site names (real f t)
    → all_marked site names (reals f front) ++ reals f items ≡ made
    → all_marked site names (reals f front') ++ reals f items' ≡ made
marked_turns f site names front front' t m items items' made front_is items_is marked same =
    ap (λ (x : List Marked). all_marked site names (reals f front') ++ reals f x) items_is
    ∙ ap (λ (x : Marked). all_marked site names (reals f front') ++ x ∷ reals f items) marked
    ∙ sym (map_snoc (marked_by site names) (reals f front') (real f t) (reals f items))
    ∙ ap (λ (x : List Marked). all_marked site names x ++ reals f items) (sym (map-append (real f) front' (t ∷ [])))
    ∙ ap (λ (x : List Marked). all_marked site names (reals f x) ++ reals f items) (sym front_is)
    ∙ same

pub marked_ends : (f : Names → Names) (site : TokId) (names : Names)
    (front items made first behind list rest : List Marked) → front ≡ [] → made ≡ items → first ≡ list → behind ≡ rest
    → all_marked site names (reals f front) ++ reals f items
    ≡ all_marked site names (reals f first) ++ reals f behind
    → reals f made ≡ all_marked site names (reals f list) ++ reals f rest
marked_ends f site names front items made first behind list rest none made_is first_is behind_is same =
    ap (reals f) made_is
    ∙ ap (λ (x : List Marked). all_marked site names (reals f x) ++ reals f items) (sym none)
    ∙ same
    ∙ ap (λ (x : List Marked). all_marked site names (reals f x) ++ reals f behind) first_is
    ∙ ap (λ (x : List Marked). all_marked site names (reals f list) ++ reals f x) behind_is

pub spliced_is : (f : Names → Names) (site : TokId) (names : Names) (before space : Bool)
    (list behind rest all whole : List Marked) → (length list == 0) ≡ false → behind ≡ token.passed_on space rest
    → reals f all ≡ all_marked site names (reals f list) ++ reals f behind → whole ≡ token.first_spaced before all
    → reals f whole
    ≡ token.first_spaced before (all_marked site names (reals f list)) ++ token.passed_on space (reals f rest)
spliced_is f site names before space [] behind rest all whole some behind_is all_is whole_is = cc
spliced_is f site names before space (t ∷ ts) behind rest all whole some behind_is all_is whole_is =
    ap (reals f) whole_is ∙ first_spaced_real f before all
    ∙ ap (token.first_spaced before) all_is
    ∙ ap (λ (x : List Marked). token.first_spaced before (all_marked site names (reals f (t ∷ ts))) ++ x)
    (ap (reals f) behind_is ∙ passed_real f space rest)

-- the right operand of `##`
abbrev pub with_tokens : Building → List Marked → Building
with_tokens b ts = record {
  progress = b.progress;
  tokens = ts;
  space = b.space;
  empty = b.empty;
  first = b.first;
}

pub pasted_alone : (f : Names → Names) (site : TokId) (r : Marked) (rs tokens : List Marked) (b : Building)
    → last_of b.tokens ≡ None → tokens ≡ r ∷ rs
    → real_building f (with_tokens b tokens)
    ≡ build.pasted_to site (real f r) (reals f rs) (last_of (reals f b.tokens)) (real_building f b)
pasted_alone f site r rs tokens b none tokens_is =
    let last : last_of (reals f b.tokens) ≡ None =
    last_real f b.tokens ∙ ap (option_map (λ (p : List Marked × Marked). (reals f p.0, real f p.1))) none in
    ap (λ (ts : List Marked). real_building f (with_tokens b ts)) tokens_is
    ∙ ap (λ (o : Option (List Marked × Marked)). build.pasted_to site (real f r) (reals f rs) o (real_building f b))
    (sym last)

pub pasted_one : (f : Names → Names) (site : TokId) (front : List Marked) (l r t : Marked) (rs tokens : List Marked)
    (b : Building) (made : Option Marked) → last_of b.tokens ≡ Some (front, l)
    → option_map (real f) made ≡ pasted (real f l) (real f r) → made ≡ Some t → tokens ≡ front ++ t ∷ rs
    → real_building f (with_tokens b tokens)
    ≡ build.pasted_to site (real f r) (reals f rs) (last_of (reals f b.tokens)) (real_building f b)
pasted_one f site front l r t rs tokens b made some pasted_is made_is tokens_is =
    let last : last_of (reals f b.tokens) ≡ Some (reals f front, real f l) =
    last_real f b.tokens ∙ ap (option_map (λ (p : List Marked × Marked). (reals f p.0, real f p.1))) some in
    let one : Some (real f t) ≡ pasted (real f l) (real f r) = sym (ap (option_map (real f)) made_is) ∙ pasted_is in
    ap (λ (ts : List Marked). real_building f (with_tokens b ts)) tokens_is
    ∙ ap (λ (ts : List Marked). with_tokens b ts) (map-append (real f) front (t ∷ rs))
    ∙ ap (λ (o : Option Marked).
    build.pasted_by site (reals f front) (real f l) (real f r) (reals f rs) o (real_building f b)) one
    ∙ ap (λ (o : Option (List Marked × Marked)). build.pasted_to site (real f r) (reals f rs) o (real_building f b))
    (sym last)

pub pasted_two : (f : Names → Names) (site : TokId) (front : List Marked) (l r : Marked) (rs tokens : List Marked)
    (b : Building) (progress : Progress) (made : Option Marked) → last_of b.tokens ≡ Some (front, l)
    → option_map (real f) made ≡ pasted (real f l) (real f r) → made ≡ None → tokens ≡ front ++ l ∷ r ∷ rs
    → progress ≡ faulty 206 site [] b.progress
    → real_building f (record b { progress = progress; tokens = tokens })
    ≡ build.pasted_to site (real f r) (reals f rs) (last_of (reals f b.tokens)) (real_building f b)
pasted_two f site front l r rs tokens b progress made some pasted_is made_is tokens_is progress_is =
    let last : last_of (reals f b.tokens) ≡ Some (reals f front, real f l) =
    last_real f b.tokens ∙ ap (option_map (λ (p : List Marked × Marked). (reals f p.0, real f p.1))) some in
    let none : None ≡ pasted (real f l) (real f r) = sym (ap (option_map (real f)) made_is) ∙ pasted_is in
    ap (λ (ts : List Marked). real_building f (record b { progress = progress; tokens = ts })) tokens_is
    ∙ ap (λ (ts : List Marked). (let all : Building = record b { progress = progress; tokens = ts } in all))
    (map-append (real f) front (l ∷ r ∷ rs))
    ∙ ap (λ (p : Progress). with_tokens (record b { progress = p }) (reals f front ++ real f l ∷ real f r ∷ reals f rs))
    progress_is
    ∙ ap (λ (o : Option Marked).
    build.pasted_by site (reals f front) (real f l) (real f r) (reals f rs) o (real_building f b)) none
    ∙ ap (λ (o : Option (List Marked × Marked)). build.pasted_to site (real f r) (reals f rs) o (real_building f b))
    (sym last)

-- an operand
pub operand_put : (f : Names → Names) (again : Expander) (b made : Building) (o : Operand) (raw : Bool)
    → (o.given && not raw) ≡ false
    → made ≡ build.puts (build.space_of b o.space) o.tokens (build.with_noted o.spelled b)
    → (let p : Part = record { built = real_building f made; more = o.more } in p)
    ≡ work.operand_part again (real_building f b) (real_operand f o) raw
operand_put f again b made o raw plainly is =
    ap (λ (x : Building). (let p : Part = record { built = real_building f x; more = o.more } in p)) is
    ∙ ap (λ (x : Building). (let p : Part = record { built = x; more = o.more } in p))
    (sym (puts_real f (build.space_of b o.space) o.tokens (build.with_noted o.spelled b)))
    ∙ ap (λ (e : Bool). (let p : Part = record {
      built = if e
          then build.puts_outcome (build.space_of b o.space) (real_building f b) (again b.progress (reals f o.tokens))
          else build.puts (build.space_of b o.space) (reals f o.tokens)
          (build.with_noted o.spelled (real_building f b));
      more = o.more;
    } in p)) (sym plainly)

pub paste_ends : (f : Names → Names) → f [] ≡ [] → (space : Bool) (t : OutToken) (one : List Marked) (b made : Building)
    → one ≡ plain t ∷ [] → made ≡ build.puts space one b
    → (let p : Part = record { built = real_building f made; more = 0 } in p)
    ≡ (let p : Part = record { built = build.puts space (plain t ∷ []) (real_building f b); more = 0 } in p)
paste_ends f none space t one b made one_is is =
    ap (λ (x : Building). (let p : Part = record { built = x; more = 0 } in p))
    (ap (real_building f) is ∙ sym (puts_real f space one b)
    ∙ ap (λ (ts : List Marked). build.puts space (reals f ts) (real_building f b)) one_is
    ∙ ap (λ (x : Marked). build.puts space (x ∷ []) (real_building f b)) (plain_real f none t))

pub paste_joins : (f : Names → Names) → f [] ≡ [] → (def : MacroDef) (args : List (List Marked)) (site : TokId)
    (b made : Building) (o : Operand) (u : OutToken) (us : List OutToken) → o ≡ operand def args u us
    → real_building f made ≡ build.joins_operand site (real_building f b) (real_operand f o)
    → (let p : Part = record { built = real_building f made; more = o.more + 1 } in p)
    ≡ build.joins_part site (real_building f b) (operand def (real_args f args) u us)
paste_joins f none def args site b made o u us is joined =
    ap (λ (x : Building). (let p : Part = record { built = x; more = o.more + 1 } in p)) joined
    ∙ ap (λ (x : Operand). build.joins_part site (real_building f b) (real_operand f x)) is
    ∙ ap (build.joins_part site (real_building f b)) (sym (operand_real f none def args u us))

-- the front of a replacement list
pub part_pastes : (again : Expander) (def : MacroDef) (args : List (List Marked)) (site : TokId) (b : Building)
    (t : OutToken) (ts : List OutToken) (made : Part) → is_paste t ≡ true
    → made ≡ build.pastes def args site b t ts → made ≡ part again def args site b t ts
unfolding part
part_pastes again def args site b t ts made paste is =
    is ∙ ap (λ (e : Bool). if e then build.pastes def args site b t ts
    else build.puts_part again b ts (operand def args t ts)) (sym paste)

pub part_puts : (f : Names → Names) → f [] ≡ [] → (again : Expander) (def : MacroDef) (args : List (List Marked))
    (site : TokId) (b : Building) (t : OutToken) (ts : List OutToken) (o : Operand) (made : Part)
    → is_paste t ≡ false → o ≡ operand def args t ts
    → made ≡ work.operand_part again b (real_operand f o) (begins_paste ts)
    → made ≡ part again def (real_args f args) site b t ts
unfolding part
part_puts f none again def args site b t ts o made plainly o_is is =
    is ∙ ap (λ (x : Operand). work.operand_part again b (real_operand f x) (begins_paste ts)) o_is
    ∙ ap (λ (x : Operand). work.operand_part again b x (begins_paste ts)) (sym (operand_real f none def args t ts))
    ∙ ap (λ (e : Bool). if e then build.pastes def (real_args f args) site b t ts
    else build.puts_part again b ts (operand def (real_args f args) t ts)) (sym plainly)

-- a token that stands for itself
none_noted : (b : Building) → build.with_noted [] b ≡ b
none_noted b =
    ap (λ (ids : List TokId). (let all : Building = record b { progress = record b.progress { spelled = ids } } in all))
    (append-nil b.progress.spelled)

pub plain_put : (f : Names → Names) (again : Expander) (b made : Building) (t : OutToken) (space raw : Bool)
    → made ≡ build.puts space (plain t ∷ []) b → space ≡ build.space_of b t.space_before
    → (let p : Part = record { built = real_building f made; more = 0 } in p)
    ≡ work.operand_part again (real_building f b) (real_operand f (build.plain_operand t)) raw
plain_put f again b made t space raw is space_is =
    ap (λ (x : Building). (let p : Part = record { built = x; more = 0 } in p))
    (ap (real_building f) (is ∙ ap (λ (s : Bool). build.puts s (plain t ∷ []) b) space_is)
    ∙ sym (puts_real f (build.space_of b t.space_before) (plain t ∷ []) b)
    ∙ ap (build.puts (build.space_of b t.space_before) (reals f (plain t ∷ []))) (sym (none_noted (real_building f b))))

pub pastes_right : (def : MacroDef) (args : List (List Marked)) (site : TokId) (b : Building) (t u : OutToken)
    (us behind : List OutToken) (made : Part) → behind ≡ u ∷ us
    → made ≡ build.joins_part site b (operand def args u us) → made ≡ build.pastes def args site b t behind
pastes_right def args site b t u us behind made begins is =
    is ∙ ap (build.pastes def args site b t) (sym begins)

-- the rest of a replacement list
pub parts_on : (again : Expander) (def : MacroDef) (args : List (List Marked)) (site : TokId) (skip more : ℕ)
    (b b' made : Building) (t : OutToken) (ts rest : List OutToken) → skip ≡ 0 → rest ≡ t ∷ ts
    → (let p : Part = record { built = b'; more = more } in p) ≡ part again def args site b t ts
    → build.substituted again def args site skip b rest ≡ made
    → build.substituted again def args site more b' ts ≡ made
parts_on again def args site skip more b b' made t ts rest none begins is same =
    ap (λ (p : Part). build.substituted again def args site p.more p.built ts) is
    ∙ ap (λ (r : List OutToken). build.substituted again def args site 0 b r) (sym begins)
    ∙ ap (λ (n : ℕ). build.substituted again def args site n b rest) (sym none)
    ∙ same

pub parts_end : (again : Expander) (def : MacroDef) (args : List (List Marked)) (site : TokId) (skip : ℕ)
    (b made : Building) (rest : List OutToken) → rest ≡ []
    → build.substituted again def args site skip b rest ≡ made → b ≡ made
parts_end again def args site skip b made rest none same =
    ap (build.substituted again def args site skip b) (sym none) ∙ same
