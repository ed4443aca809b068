-- `session_append::append` meets its contract: a file that is read has sizes within their limits and at most 2,048 positions. Assumes nothing.
use mathlib.Core.Path.{◌≡◌, sym, ap, ◌∙◌}
use lib.ListN.{take}
use Rattle.std.specs.Prelude.{Err}
use Rattle.std.proofs.lemmas.Result.{err_from_is_err_and}
use Rattle.session_file.specs.Reader.{read_of, session_read}
use Rattle.session_file.specs.Writer.{Saving, written}
use Rattle.session_file.proofs.Walks.{read→standing}
use Rattle.session_append.proofs.Answers.{behind_buffer, read_first, file_refused}
use Rattle.session_append.proofs.append.Goals as goal
use Rattle.session_append.proofs.append.Goals.{In_ok-read}

pub returns-then-buffer-used : goal.returns-then-buffer-used
returns-then-buffer-used c =
    let s = c.args in
    behind_buffer s.buffer.now s.used s.count s.keys.now s.values.now c.if-buffer-used.true

-- the file has a session
read : (c : In_ok-read)
    → let s = c.args in
    read_of (take s.used s.buffer.now) ≡ session_read c.in_ok-read.read.sizes c.in_ok-read.read.positions
read c = sym c.inspect.ensures ∙ c.in_ok-read.was

pub append_to-requires : goal.append_to-requires
append_to-requires c =
    let s = c.args in
    let w = read→standing (take s.used s.buffer.now) c.in_ok-read.read.sizes c.in_ok-read.read.positions (read (goal.at.append_to-requires c).In_ok-read) in
    record { sizes_value = w.limits; n_bound = w.most }

pub returns-in_err-read : goal.returns-in_err-read
returns-in_err-read c =
    let s = c.args in
    let v = err_from_is_err_and _ c.from_residual.ensures.1 in
    ap (λ (z : Saving). written z s.buffer.now) (v.1 ∙ ap Err v.2) ∙ file_refused s.buffer.now s.used s.count s.keys.now s.values.now c.in_err-read.field-0.0 c.if-buffer-used.false (sym c.inspect.ensures ∙ c.in_err-read.was)

pub returns : goal.returns
returns c =
    let s = c.args in
    read_first s.buffer.now s.used s.count s.keys.now s.values.now (session_read c.in_ok-read.read.sizes c.in_ok-read.read.positions) (written c.append_to.result c.append_to.new.buffer) c.if-buffer-used.false (read (goal.at.returns c).In_ok-read) c.append_to.ensures
