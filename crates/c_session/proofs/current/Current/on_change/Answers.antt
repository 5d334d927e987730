use Rattle.std.proofs.Common.{option_map}
use Rattle.serde_json.specs.View.{view}
use Rattle.plain_mean.specs.Lists.{shown_in}
use Rattle.c_session.specs.React.{did_change}
use Rattle.c_session.specs.Ties.Sessions.{current_state}
use Rattle.c_session.proofs.Telling.{edit_told, changing_prior, shows_behind, kept_behind, with_docs}
use Rattle.c_session.proofs.Keeping.{edit_keeps, edit_works}
use Rattle.c_session.proofs.current.Current.on_change.Goals as goal

pub returns-clause-told : goal.returns-clause-told
returns-clause-told g c = edit_told (current_state c.args.self.now) (current_state c.reply_to_edit.new.self) c.change_document-edited.new.docs did_change c.change_document-edited.result _ c.change_document-edited.new.prior
    c.in_ok-bytes.bytes.items (shown_in c.args.self.now.kept.shown) (shown_in c.reply_to_edit.new.self.kept.shown) c.in_ok-bytes.ensures.same c.requires.0.shown.right
    (changing_prior c.args.self.now.docs c.change_document-edited.new.docs c.args.self.now.encoding (option_map (λ v. view v.now) c.args.params) c.change_document-edited.result c.new-prior.result c.change_document-edited.new.prior c.new-prior.ensures c.change_document-edited.ensures.prior)
    c.change_document-edited.ensures.meant c.change_document-edited.ensures.kept c.in_ok-bytes.ensures.reply
    (shows_behind c.change_document-edited.result (with_docs c.change_document-edited.new.docs c.args.self.now) c.reply_to_edit.new.self c.in_ok-bytes.ensures.behind)

pub returns-clause-kept : goal.returns-clause-kept
returns-clause-kept g c = kept_behind c.change_document-edited.result c.args.self.now c.change_document-edited.new.docs c.reply_to_edit.new.self c.in_ok-bytes.ensures.behind c.change_document-edited.ensures.kept c.requires

pub returns-clause-steps : goal.returns-clause-steps
returns-clause-steps g c = edit_works c.args.self.now (current_state c.reply_to_edit.new.self) c.change_document-edited.new.docs c.change_document-edited.result _ c.change_document-edited.new.prior _ _ c.in_ok-bytes.ensures.same
    (changing_prior c.args.self.now.docs c.change_document-edited.new.docs c.args.self.now.encoding (option_map (λ v. view v.now) c.args.params) c.change_document-edited.result c.new-prior.result c.change_document-edited.new.prior c.new-prior.ensures c.change_document-edited.ensures.prior)
    c.change_document-edited.ensures.meant c.change_document-edited.ensures.kept c.requires c.in_ok-bytes.ensures.steps

pub reply_to_edit-requires : goal.reply_to_edit-requires
reply_to_edit-requires g c = record {
  kept = edit_keeps c.args.self.now c.change_document-edited.new.docs c.change_document-edited.result _ c.change_document-edited.new.prior
      (changing_prior c.args.self.now.docs c.change_document-edited.new.docs c.args.self.now.encoding (option_map (λ v. view v.now) c.args.params) c.change_document-edited.result c.new-prior.result c.change_document-edited.new.prior c.new-prior.ensures c.change_document-edited.ensures.prior)
      c.change_document-edited.ensures.meant c.requires;
}
