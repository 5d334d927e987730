use Rattle.std.proofs.Common.{◌+◌, drop, map, refl, sym, ap, ◌∙◌}
use Rattle.scope_tables.specs.Occurrences.{is_at}
use Rattle.unit_index.specs.Chains.{first_from, alike, code_by}
use Rattle.unit_index.specs.Codes.{by_token, by_anchor}
use Rattle.unit_index.specs.Occurrences.{is_of}
use Rattle.unit_index.proofs.PlaceLemmas.{next_code}
use Rattle.unit_index.proofs.WalkLemmas.{token_number, anchor_number}
use Rattle.unit_index.proofs.chains.next_alike.Goals as goal

pub seek_token-requires-clause-codes : goal.seek_token-requires-clause-codes
seek_token-requires-clause-codes c = c.requires.codes ∙ ap (λ b. map (code_by b) c.args.occs.now) c.in-Token.is

pub seek_token-requires-clause-from : goal.seek_token-requires-clause-from
seek_token-requires-clause-from c =
    (next_code (is_at c.args.occ.now.tok) by_token c.args.occs.now _ _ _ c.args.occ.now _
    (record { codes = c.requires.codes ∙ ap (λ b. map (code_by b) c.args.occs.now) c.in-Token.is; within = token_number c.args.occ.now.tok }) c.requires.there refl c.next-next.ensures).0

pub seek_anchor-requires-clause-codes : goal.seek_anchor-requires-clause-codes
seek_anchor-requires-clause-codes c = c.requires.codes ∙ ap (λ b. map (code_by b) c.args.occs.now) c.in-Anchor.is

pub seek_anchor-requires-clause-from : goal.seek_anchor-requires-clause-from
seek_anchor-requires-clause-from c =
    (next_code (is_of c.args.occ.now.anchor) by_anchor c.args.occs.now _ _ _ c.args.occ.now _
    (record { codes = c.requires.codes ∙ ap (λ b. map (code_by b) c.args.occs.now) c.in-Anchor.is; within = anchor_number c.args.occ.now.anchor }) c.requires.there refl c.next-next.ensures).0

pub returns-in-Token : goal.returns-in-Token
returns-in-Token c =
    c.seek_token.ensures
    ∙ (next_code (is_at c.args.occ.now.tok) by_token c.args.occs.now _ _ _ c.args.occ.now _
    (record { codes = c.requires.codes ∙ ap (λ b. map (code_by b) c.args.occs.now) c.in-Token.is; within = token_number c.args.occ.now.tok }) c.requires.there refl c.next-next.ensures).1
    ∙ ap (λ b. first_from (alike b c.args.occ.now) (c.args.place + 1) (drop (c.args.place + 1) c.args.occs.now)) (sym c.in-Token.is)

pub returns-in-Anchor : goal.returns-in-Anchor
returns-in-Anchor c =
    c.seek_anchor.ensures
    ∙ (next_code (is_of c.args.occ.now.anchor) by_anchor c.args.occs.now _ _ _ c.args.occ.now _
    (record { codes = c.requires.codes ∙ ap (λ b. map (code_by b) c.args.occs.now) c.in-Anchor.is; within = anchor_number c.args.occ.now.anchor }) c.requires.there refl c.next-next.ensures).1
    ∙ ap (λ b. first_from (alike b c.args.occ.now) (c.args.place + 1) (drop (c.args.place + 1) c.args.occs.now)) (sym c.in-Anchor.is)
