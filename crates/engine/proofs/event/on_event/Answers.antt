-- `engine::event::on_event` meets its contract: s is the start, f the survey, k what the books say, d the verdict.
-- Assumes nothing.
use Rattle.model.proofs.Formed.{fields}
use Rattle.books.proofs.Given.{sound_length, sound_splits_lem}
use Rattle.engine.proofs.Deciding.{decide_asks, may_apply, may_deliver, did}
use Rattle.engine.proofs.event.on_event.Goals as goal

pub surveyed-f-requires : goal.surveyed-f-requires
surveyed-f-requires c =
    let r = c.requires.ready.0 in
    record {
      sound_table = c.requires.sound_table;
      books_len = (sound_length _ _ r.sound, sound_splits_lem _ _ r.sound, (fields c.args.e r.formed).tn);
    }

pub decide-v-requires : goal.decide-v-requires
decide-v-requires c =
    let g = decide_asks c.args.marks _ c.args.most _ _ c.args.e _ c.requires.sound_table c.requires.ready.2 c.requires.ready.0
    c.requires.ready.1 c.surveyed-f.result c.known-k.result c.surveyed-f.ensures c.known-k.ensures in
    record { e_value = g.0; kept = g.1 }

pub apply-requires : goal.apply-requires
apply-requires c =
    record {
      sound_table = c.requires.sound_table;
      applicable = may_apply c.args.marks _ c.args.most _ _ c.args.e _ c.requires.sound_table c.requires.ready.2 c.requires.ready.0
          c.requires.ready.1
          c.surveyed-f.result c.known-k.result c.surveyed-f.ensures c.known-k.ensures c.decide-v.result c.decide-v.ensures;
    }

pub deliver-count-requires : goal.deliver-count-requires
deliver-count-requires c =
    let g = may_deliver c.args.marks _ c.args.most _ _ c.args.e _ c.requires.sound_table c.requires.ready.2 c.requires.ready.0
    c.requires.ready.1 c.surveyed-f.result c.known-k.result c.surveyed-f.ensures c.known-k.ensures c.decide-v.result c.decide-v.ensures in
    record { mail_len_bound = g.0; all = g.1 }

pub returns : goal.returns
returns c =
    did c.args.marks _ c.args.most _ _ c.args.e _ c.requires.sound_table c.requires.ready.2 c.requires.ready.0 c.requires.ready.1
    c.surveyed-f.result c.known-k.result c.surveyed-f.ensures c.known-k.ensures c.decide-v.result c.decide-v.ensures _ _ _ _ _
    c.apply.ensures c.deliver-count.ensures c.answered.ensures
