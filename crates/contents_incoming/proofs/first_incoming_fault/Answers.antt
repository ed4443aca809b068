-- `contents_incoming::first_incoming_fault` meets its contract, form by form. Assumes nothing.
use mathlib.Core.Path.{sym, ◌∙◌}
use Rattle.call.proofs.Facts.{limits→facts}
use Rattle.contents.proofs.Groups.{search_plain, search_cached}
use Rattle.contents.proofs.Counted.{no_past, live_most}
use Rattle.contents_incoming.proofs.first_incoming_fault.Goals as goal

pub first_counted_fault-requires : goal.first_counted_fault-requires
first_counted_fault-requires c =
    let s = c.args in
    let p = c.requires in
    let counted = c.in-Counted.is in
    record {
      call_value = p.call_value;
      past_value = no_past s.call p.call_value counted;
      live_len = p.live_len;
      by_index = live_most s.call p.call_value counted s.live.now p.live_len p.live_value;
      le_size = p.le_size;
      tensor_len = p.tensor_len;
    }

pub returns-in-Plain : goal.returns-in-Plain
returns-in-Plain c =
    let s = c.args in
    let t = s.tensor.now in
    c.first_fault_by_blocks.ensures
    ∙ (sym (search_plain s.call s.live.now s.size t (limits→facts _ c.requires.call_value).klen_some c.in-Plain.is))

pub returns-in-Cached : goal.returns-in-Cached
returns-in-Cached c =
    let s = c.args in
    let t = s.tensor.now in
    c.first_fault_by_blocks-in-Cached.ensures
    ∙ (sym (search_cached s.call s.live.now s.size t (limits→facts _ c.requires.call_value).klen_some c.in-Cached.is))
