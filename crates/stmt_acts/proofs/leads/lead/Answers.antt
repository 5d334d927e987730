use Rattle.std.proofs.Common.{◌≡◌, ◌<◌, ◌+◌, List, [], ◌∷◌, ◌++◌, IfOk, refl, ap, sym, subst, ◌∙◌}
use Rattle.tree_data.specs.Heads.{heading_of}
use Rattle.tree_data.specs.Seen.{tree_of}
use Rattle.tree_data.specs.Stated.{stmt_of, leads_of}
use Rattle.tree_data.specs.Statements.{Statement, led}
use Rattle.stmt_acts.specs.declared.acts.Within.{Within}
use Rattle.stmt_acts.specs.Acts.{Act, Enter, Leave, If_test, Loop_test, Switch_on, End_switch, Case_label, Declare_in_for}
use Rattle.stmt_acts.specs.Bodies.{statement}
use Rattle.stmt_acts.specs.Shown.{one_of}
use Rattle.stmt_acts.specs.Sizes.{stmt_size, leads_size}
use Rattle.stmt_acts.specs.Withins.{looped, switched}
use Rattle.stmt_acts.specs.Works.{acts_left, size_left}
use Rattle.stmt_acts.proofs.Arms.{behind_label, behind_case, behind_default, behind_if, behind_if_else, behind_switch, behind_while, behind_for, behind_for_declaring}
use Rattle.stmt_acts.proofs.Layers.{lead_label_size, lead_case_size, lead_default_size, lead_if_size, lead_if_else_size, lead_switch_size, lead_while_size, lead_for_size, lead_for_declaring_size}
use Rattle.stmt_acts.proofs.leads.lead.Goals as goal

for_parts : (w : Within) → (s : Statement) → {xs us ys vs zs ws : List Act} → xs ≡ us → ys ≡ vs → zs ≡ ws →
    Enter ∷ (xs ++ (ys ++ (zs ++ (Enter ∷ (statement (looped w) s ++ (Leave ∷ Leave ∷ [])))))) ≡ Enter ∷ (us ++ (vs ++ (ws ++ (Enter ∷ (statement (looped w) s ++ (Leave ∷ Leave ∷ []))))))
for_parts w s {xs} {us} {ys} {vs} {zs} {ws} a b c =
    ap (λ q. Enter ∷ (q ++ (ys ++ (zs ++ (Enter ∷ (statement (looped w) s ++ (Leave ∷ Leave ∷ []))))))) a
    ∙ ap (λ q. Enter ∷ (us ++ (q ++ (zs ++ (Enter ∷ (statement (looped w) s ++ (Leave ∷ Leave ∷ []))))))) b
    ∙ ap (λ q. Enter ∷ (us ++ (vs ++ (q ++ (Enter ∷ (statement (looped w) s ++ (Leave ∷ Leave ∷ []))))))) c

pub returns-in-Label-clause-acts : goal.returns-in-Label-clause-acts
returns-in-Label-clause-acts c =
    subst (λ x. IfOk c.labelled.result (λ a. one_of a ++ acts_left c.labelled.new.works ≡ x ++ acts_left c.args.works.now)) (sym (behind_label c.args.lead.now c.in-Label.name c.in-Label.field-1 c.in-Label.is c.args.within (led (leads_of c.args.rest.now) (stmt_of c.args.stmt.now)))) c.labelled.ensures.acts

pub returns-in-Label-clause-size : goal.returns-in-Label-clause-size
returns-in-Label-clause-size c =
    subst (λ n. IfOk c.labelled.result (λ a. size_left c.labelled.new.works < n + size_left c.args.works.now)) (ap (λ n. n + (leads_size c.args.rest.now + stmt_size c.args.stmt.now)) (sym (lead_label_size c.args.lead.now c.in-Label.name c.in-Label.field-1 c.in-Label.is))) c.labelled.ensures.size

pub returns-in-Case-clause-acts : goal.returns-in-Case-clause-acts
returns-in-Case-clause-acts c =
    subst (λ x. IfOk c.labelled-in-Case.result (λ a. one_of a ++ acts_left c.labelled-in-Case.new.works ≡ x ++ acts_left c.args.works.now)) (ap (λ e. Case_label c.in-Case.at (tree_of e) ∷ statement c.args.within (led (leads_of c.args.rest.now) (stmt_of c.args.stmt.now))) c.deref.ensures
    ∙ sym (behind_case c.args.lead.now c.in-Case.at c.in-Case.value c.in-Case.field-2 c.in-Case.is c.args.within (led (leads_of c.args.rest.now) (stmt_of c.args.stmt.now)))) c.labelled-in-Case.ensures.acts

pub returns-in-Case-clause-size : goal.returns-in-Case-clause-size
returns-in-Case-clause-size c =
    subst (λ n. IfOk c.labelled-in-Case.result (λ a. size_left c.labelled-in-Case.new.works < n + size_left c.args.works.now)) (ap (λ n. n + (leads_size c.args.rest.now + stmt_size c.args.stmt.now)) (sym (lead_case_size c.args.lead.now c.in-Case.at c.in-Case.value c.in-Case.field-2 c.in-Case.is))) c.labelled-in-Case.ensures.size

pub returns-in-Default-clause-acts : goal.returns-in-Default-clause-acts
returns-in-Default-clause-acts c =
    subst (λ x. IfOk c.labelled-in-Default.result (λ a. one_of a ++ acts_left c.labelled-in-Default.new.works ≡ x ++ acts_left c.args.works.now)) (sym (behind_default c.args.lead.now c.in-Default.at c.in-Default.field-1 c.in-Default.is c.args.within (led (leads_of c.args.rest.now) (stmt_of c.args.stmt.now)))) c.labelled-in-Default.ensures.acts

pub returns-in-Default-clause-size : goal.returns-in-Default-clause-size
returns-in-Default-clause-size c =
    subst (λ n. IfOk c.labelled-in-Default.result (λ a. size_left c.labelled-in-Default.new.works < n + size_left c.args.works.now)) (ap (λ n. n + (leads_size c.args.rest.now + stmt_size c.args.stmt.now)) (sym (lead_default_size c.args.lead.now c.in-Default.at c.in-Default.field-1 c.in-Default.is))) c.labelled-in-Default.ensures.size

pub returns-in-If-clause-acts : goal.returns-in-If-clause-acts
returns-in-If-clause-acts c =
    subst (λ x. IfOk c.tested_block.result (λ a. one_of a ++ acts_left c.tested_block.new.works ≡ x ++ acts_left c.args.works.now)) (ap (λ e. Enter ∷ If_test c.in-If.at (tree_of e) ∷ Enter ∷ (statement c.args.within (led (leads_of c.args.rest.now) (stmt_of c.args.stmt.now)) ++ (Leave ∷ Leave ∷ []))) c.deref-in-If.ensures
    ∙ sym (behind_if c.args.lead.now c.in-If.at c.in-If.field-1 c.in-If.test c.in-If.field-3 c.in-If.is c.args.within (led (leads_of c.args.rest.now) (stmt_of c.args.stmt.now)))) c.tested_block.ensures.acts

pub returns-in-If-clause-size : goal.returns-in-If-clause-size
returns-in-If-clause-size c =
    subst (λ n. IfOk c.tested_block.result (λ a. size_left c.tested_block.new.works < n + size_left c.args.works.now)) (ap (λ n. n + (leads_size c.args.rest.now + stmt_size c.args.stmt.now)) (sym (lead_if_size c.args.lead.now c.in-If.at c.in-If.field-1 c.in-If.test c.in-If.field-3 c.in-If.is))) c.tested_block.ensures.size

pub returns-in-IfElse-clause-acts : goal.returns-in-IfElse-clause-acts
returns-in-IfElse-clause-acts c =
    subst (λ x. IfOk c.chosen.result (λ a. one_of a ++ acts_left c.chosen.new.works ≡ x ++ acts_left c.args.works.now)) (ap (λ e. Enter ∷ If_test c.in-IfElse.at (tree_of e) ∷ Enter ∷ (statement c.args.within (stmt_of c.deref-in-IfElse-2.result.now) ++ (Leave ∷ Enter ∷ (statement c.args.within (led (leads_of c.args.rest.now) (stmt_of c.args.stmt.now)) ++ (Leave ∷ Leave ∷ []))))) c.deref-in-IfElse.ensures
    ∙ ap (λ x. Enter ∷ If_test c.in-IfElse.at (tree_of c.in-IfElse.test.value) ∷ Enter ∷ (statement c.args.within (stmt_of x) ++ (Leave ∷ Enter ∷ (statement c.args.within (led (leads_of c.args.rest.now) (stmt_of c.args.stmt.now)) ++ (Leave ∷ Leave ∷ []))))) c.deref-in-IfElse-2.ensures
    ∙ sym (behind_if_else c.args.lead.now c.in-IfElse.at c.in-IfElse.field-1 c.in-IfElse.test c.in-IfElse.field-3 c.in-IfElse.first c.in-IfElse.field-5 c.in-IfElse.is c.args.within (led (leads_of c.args.rest.now) (stmt_of c.args.stmt.now)))) c.chosen.ensures.acts

pub returns-in-IfElse-clause-size : goal.returns-in-IfElse-clause-size
returns-in-IfElse-clause-size c =
    subst (λ n. IfOk c.chosen.result (λ a. size_left c.chosen.new.works < n + size_left c.args.works.now)) (ap (λ x. 10 + stmt_size x + (leads_size c.args.rest.now + stmt_size c.args.stmt.now)) c.deref-in-IfElse-2.ensures ∙ ap (λ n. n + (leads_size c.args.rest.now + stmt_size c.args.stmt.now)) (sym (lead_if_else_size c.args.lead.now c.in-IfElse.at c.in-IfElse.field-1 c.in-IfElse.test c.in-IfElse.field-3 c.in-IfElse.first c.in-IfElse.field-5 c.in-IfElse.is))) c.chosen.ensures.size

pub returns-in-Switch-clause-acts : goal.returns-in-Switch-clause-acts
returns-in-Switch-clause-acts c =
    subst (λ x. IfOk c.switched.result (λ a. one_of a ++ acts_left c.switched.new.works ≡ x ++ acts_left c.args.works.now)) (ap (λ e. Enter ∷ Switch_on c.in-Switch.at (tree_of e) ∷ Enter ∷ (statement (switched c.args.within) (led (leads_of c.args.rest.now) (stmt_of c.args.stmt.now)) ++ (Leave ∷ End_switch ∷ Leave ∷ []))) c.deref-in-Switch.ensures
    ∙ sym (behind_switch c.args.lead.now c.in-Switch.at c.in-Switch.field-1 c.in-Switch.value c.in-Switch.field-3 c.in-Switch.is c.args.within (led (leads_of c.args.rest.now) (stmt_of c.args.stmt.now)))) c.switched.ensures.acts

pub returns-in-Switch-clause-size : goal.returns-in-Switch-clause-size
returns-in-Switch-clause-size c =
    subst (λ n. IfOk c.switched.result (λ a. size_left c.switched.new.works < n + size_left c.args.works.now)) (ap (λ n. n + (leads_size c.args.rest.now + stmt_size c.args.stmt.now)) (sym (lead_switch_size c.args.lead.now c.in-Switch.at c.in-Switch.field-1 c.in-Switch.value c.in-Switch.field-3 c.in-Switch.is))) c.switched.ensures.size

pub returns-in-While-clause-acts : goal.returns-in-While-clause-acts
returns-in-While-clause-acts c =
    subst (λ x. IfOk c.tested_block-in-While.result (λ a. one_of a ++ acts_left c.tested_block-in-While.new.works ≡ x ++ acts_left c.args.works.now)) (ap (λ v. Enter ∷ Loop_test c.in-While.at (tree_of c.deref-in-While.result.now) ∷ Enter ∷ (statement v (led (leads_of c.args.rest.now) (stmt_of c.args.stmt.now)) ++ (Leave ∷ Leave ∷ []))) c.looped.ensures
    ∙ ap (λ e. Enter ∷ Loop_test c.in-While.at (tree_of e) ∷ Enter ∷ (statement (looped c.args.within) (led (leads_of c.args.rest.now) (stmt_of c.args.stmt.now)) ++ (Leave ∷ Leave ∷ []))) c.deref-in-While.ensures
    ∙ sym (behind_while c.args.lead.now c.in-While.at c.in-While.field-1 c.in-While.test c.in-While.field-3 c.in-While.is c.args.within (led (leads_of c.args.rest.now) (stmt_of c.args.stmt.now)))) c.tested_block-in-While.ensures.acts

pub returns-in-While-clause-size : goal.returns-in-While-clause-size
returns-in-While-clause-size c =
    subst (λ n. IfOk c.tested_block-in-While.result (λ a. size_left c.tested_block-in-While.new.works < n + size_left c.args.works.now)) (ap (λ n. n + (leads_size c.args.rest.now + stmt_size c.args.stmt.now)) (sym (lead_while_size c.args.lead.now c.in-While.at c.in-While.field-1 c.in-While.test c.in-While.field-3 c.in-While.is))) c.tested_block-in-While.ensures.size

pub returns-in-For-clause-acts : goal.returns-in-For-clause-acts
returns-in-For-clause-acts c =
    subst (λ x. IfOk c.iterated.result (λ a. one_of a ++ acts_left c.iterated.new.works ≡ x ++ acts_left c.args.works.now)) (for_parts c.args.within (led (leads_of c.args.rest.now) (stmt_of c.args.stmt.now)) c.evaluated.ensures c.tested.ensures c.evaluated-in-For.ensures
    ∙ sym (behind_for c.args.lead.now c.in-For.at c.in-For.field-1 c.in-For.first c.in-For.field-3 c.in-For.test c.in-For.field-5 c.in-For.step c.in-For.field-7 c.in-For.is c.args.within (led (leads_of c.args.rest.now) (stmt_of c.args.stmt.now)))) c.iterated.ensures.acts

pub returns-in-For-clause-size : goal.returns-in-For-clause-size
returns-in-For-clause-size c =
    subst (λ n. IfOk c.iterated.result (λ a. size_left c.iterated.new.works < n + size_left c.args.works.now)) (ap (λ n. n + (leads_size c.args.rest.now + stmt_size c.args.stmt.now)) (sym (lead_for_size c.args.lead.now c.in-For.at c.in-For.field-1 c.in-For.first c.in-For.field-3 c.in-For.test c.in-For.field-5 c.in-For.step c.in-For.field-7 c.in-For.is))) c.iterated.ensures.size

pub returns-in-ForDeclaring-clause-acts : goal.returns-in-ForDeclaring-clause-acts
returns-in-ForDeclaring-clause-acts c =
    subst (λ x. IfOk c.iterated-in-ForDeclaring.result (λ a. one_of a ++ acts_left c.iterated-in-ForDeclaring.new.works ≡ x ++ acts_left c.args.works.now)) (ap (λ d. Enter ∷ ((Declare_in_for (heading_of d) ∷ []) ++ (one_of c.tested-in-ForDeclaring.result ++ (one_of c.evaluated-in-ForDeclaring.result ++ (Enter ∷ (statement (looped c.args.within) (led (leads_of c.args.rest.now) (stmt_of c.args.stmt.now)) ++ (Leave ∷ Leave ∷ []))))))) c.deref-in-ForDeclaring.ensures
    ∙ for_parts c.args.within (led (leads_of c.args.rest.now) (stmt_of c.args.stmt.now)) {xs = Declare_in_for (heading_of c.in-ForDeclaring.first.value) ∷ []} refl c.tested-in-ForDeclaring.ensures c.evaluated-in-ForDeclaring.ensures
    ∙ sym (behind_for_declaring c.args.lead.now c.in-ForDeclaring.at c.in-ForDeclaring.field-1 c.in-ForDeclaring.first c.in-ForDeclaring.test c.in-ForDeclaring.field-4 c.in-ForDeclaring.step c.in-ForDeclaring.field-6 c.in-ForDeclaring.is c.args.within (led (leads_of c.args.rest.now) (stmt_of c.args.stmt.now)))) c.iterated-in-ForDeclaring.ensures.acts

pub returns-in-ForDeclaring-clause-size : goal.returns-in-ForDeclaring-clause-size
returns-in-ForDeclaring-clause-size c =
    subst (λ n. IfOk c.iterated-in-ForDeclaring.result (λ a. size_left c.iterated-in-ForDeclaring.new.works < n + size_left c.args.works.now)) (ap (λ n. n + (leads_size c.args.rest.now + stmt_size c.args.stmt.now)) (sym (lead_for_declaring_size c.args.lead.now c.in-ForDeclaring.at c.in-ForDeclaring.field-1 c.in-ForDeclaring.first c.in-ForDeclaring.test c.in-ForDeclaring.field-4 c.in-ForDeclaring.step c.in-ForDeclaring.field-6 c.in-ForDeclaring.is))) c.iterated-in-ForDeclaring.ensures.size
