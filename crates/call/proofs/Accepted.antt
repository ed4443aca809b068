-- A call is accepted exactly where none of the nine refusals applies, and each link of their chain where none of its own does. Assumes nothing.
use Rattle.std.specs.Prelude.{None, Ok}
use mathlib.Core.Path.{◌≡◌, sym, ◌∙◌}
use mathlib.Core.Bool.{true}
use Rattle.call.specs.declared.Call.{Call}
use Rattle.call.specs.Tensors.{Inputs, Outputs}
use Rattle.call.specs.Limits.{limits_hold, groups_hold, settings_hold, mask_shape_holds}
use Rattle.call.specs.Lengths.{inputs_fit, outputs_fit}
use Rattle.call.specs.Contents.{live_fault, byte_mask_fault, float_mask_fault, tensor_fault, incoming_fault}
use Rattle.call.specs.Refusals.{record_links, length_links, cell_links, general_links, record_verdict, lengths_verdict, cells_verdict, verdict_of}
use Rattle.call.proofs.FirstLink.{first→clear, clear→first, general_links_lem}

-- none of the nine refusals applies
pub record Accepts (c : Call) (x : Inputs) (y : Outputs) : Type 0 where
  pub limits : limits_hold c ≡ true
  pub groups : groups_hold c ≡ true
  pub settings : settings_hold c ≡ true
  pub mask_shape : mask_shape_holds c ≡ true
  pub inputs : inputs_fit c x ≡ true
  pub outputs : outputs_fit c y ≡ true
  pub live : live_fault c x.live ≡ None
  pub bytes : byte_mask_fault x.bool_mask ≡ None
  pub cells : float_mask_fault x.float_mask ≡ None
  pub query : tensor_fault x.query ≡ None
  pub past_key : tensor_fault x.past_key ≡ None
  pub key : incoming_fault c x.live c.size x.key ≡ None
  pub past_value : tensor_fault x.past_value ≡ None
  pub value : incoming_fault c x.live c.vsize x.value ≡ None

-- ---- each link

pub record→held : (c : Call) → record_verdict c ≡ Ok tt → (limits_hold c ≡ true) × (groups_hold c ≡ true) × (settings_hold c ≡ true) × (mask_shape_holds c ≡ true)
unfolding record_verdict
record→held c e = let d = first→clear (record_links c) e in (d.0, d.1.0, d.1.1.0, d.1.1.1.0)

pub lengths→held : (c : Call) (x : Inputs) (y : Outputs) → lengths_verdict c x y ≡ Ok tt → (inputs_fit c x ≡ true) × (outputs_fit c y ≡ true)
unfolding lengths_verdict
lengths→held c x y e = let d = first→clear (length_links c x y) e in (d.0, d.1.0)

pub cells→none : (c : Call) (x : Inputs) → cells_verdict c x ≡ Ok tt → (live_fault c x.live ≡ None) × (byte_mask_fault x.bool_mask ≡ None) × (float_mask_fault x.float_mask ≡ None)
unfolding cells_verdict
cells→none c x e = let d = first→clear (cell_links c x) e in (d.0, d.1.0, d.1.1.0)

-- ---- all nine

pub verdict→accepts : (c : Call) (x : Inputs) (y : Outputs) → verdict_of c x y ≡ Ok tt → Accepts c x y
verdict→accepts c x y e = let d = first→clear (general_links c x y) (sym (general_links_lem c x y) ∙ e) in search

pub accepts→verdict : (c : Call) (x : Inputs) (y : Outputs) → Accepts c x y → verdict_of c x y ≡ Ok tt
accepts→verdict c x y a = general_links_lem c x y ∙ clear→first (general_links c x y) (search)
