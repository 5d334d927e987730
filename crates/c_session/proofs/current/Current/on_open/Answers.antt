use Rattle.std.proofs.Common.{option_map}
use Rattle.serde_json.specs.View.{view}
use Rattle.plain_mean.specs.Lists.{shown_in}
use Rattle.c_session.specs.React.{did_open}
use Rattle.c_session.specs.Ties.Sessions.{current_state}
use Rattle.c_session.proofs.Telling.{edit_told, opening_prior, shows_behind, kept_behind, with_docs}
use Rattle.c_session.proofs.Keeping.{edit_keeps, edit_works}
use Rattle.c_session.proofs.current.Current.on_open.Goals as goal

pub returns-clause-told : goal.returns-clause-told
returns-clause-told g c = edit_told (current_state c.args.self.now) (current_state c.reply_to_edit.new.self) c.open_document-edited.new.docs did_open c.open_document-edited.result _ c.open_document-edited.new.prior
    c.in_ok-bytes.bytes.items (shown_in c.args.self.now.kept.shown) (shown_in c.reply_to_edit.new.self.kept.shown) c.in_ok-bytes.ensures.same c.requires.0.shown.right
    (opening_prior c.args.self.now.docs c.open_document-edited.new.docs (option_map (λ v. view v.now) c.args.params) c.open_document-edited.result c.new-prior.result c.open_document-edited.new.prior c.new-prior.ensures c.open_document-edited.ensures.prior)
    c.open_document-edited.ensures.meant c.open_document-edited.ensures.kept c.in_ok-bytes.ensures.reply
    (shows_behind c.open_document-edited.result (with_docs c.open_document-edited.new.docs c.args.self.now) c.reply_to_edit.new.self c.in_ok-bytes.ensures.behind)

pub returns-clause-kept : goal.returns-clause-kept
returns-clause-kept g c = kept_behind c.open_document-edited.result c.args.self.now c.open_document-edited.new.docs c.reply_to_edit.new.self c.in_ok-bytes.ensures.behind c.open_document-edited.ensures.kept c.requires

pub returns-clause-steps : goal.returns-clause-steps
returns-clause-steps g c = edit_works c.args.self.now (current_state c.reply_to_edit.new.self) c.open_document-edited.new.docs c.open_document-edited.result _ c.open_document-edited.new.prior _ _ c.in_ok-bytes.ensures.same
    (opening_prior c.args.self.now.docs c.open_document-edited.new.docs (option_map (λ v. view v.now) c.args.params) c.open_document-edited.result c.new-prior.result c.open_document-edited.new.prior c.new-prior.ensures c.open_document-edited.ensures.prior)
    c.open_document-edited.ensures.meant c.open_document-edited.ensures.kept c.requires c.in_ok-bytes.ensures.steps

pub reply_to_edit-requires : goal.reply_to_edit-requires
reply_to_edit-requires g c = record {
  kept = edit_keeps c.args.self.now c.open_document-edited.new.docs c.open_document-edited.result _ c.open_document-edited.new.prior
      (opening_prior c.args.self.now.docs c.open_document-edited.new.docs (option_map (λ v. view v.now) c.args.params) c.open_document-edited.result c.new-prior.result c.open_document-edited.new.prior c.new-prior.ensures c.open_document-edited.ensures.prior)
      c.open_document-edited.ensures.meant c.requires;
}
