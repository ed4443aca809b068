-- What the exported functions of saved sessions give back is the report of the answer, with the lent caches or the buffer. Assumes nothing.
use mathlib.Core.Path.{◌≡◌, ap, ◌∙◌}
use mathlib.Core.List.{List}
use Prim.Native.Nat.{ℕ}
use lib.Ieee.{Float}
use Rattle.session_file.specs.Reader.{Reading}
use Rattle.session_file.specs.Writer.{Saving}
use Rattle.session_file.specs.Reader.{Loaded, loaded}
use Rattle.session_file.specs.Writer.{Written, written}
use Rattle.session_file.specs.Numbers.{ReadingReport, reading_report, SavingReport, saving_report}
use Rattle.session_interface.specs.Sessions.{LoadedReport, loaded_with, loaded_report, SavedReport, saved_report}

pub loaded_is : (n : ReadingReport) (r : Reading) (keys values : List Float) (l : Loaded) → n ≡ reading_report r → loaded r keys values ≡ l → loaded_with n keys values ≡ loaded_report l
loaded_is n r keys values l p q = ap (λ (x : ReadingReport). loaded_with x keys values) p ∙ ap loaded_report q

pub saved_is : (n : SavingReport) (a : Saving) (buffer : List ℕ) (w : Written) → n ≡ saving_report a → written a buffer ≡ w → ◌≡◌ {A = SavedReport} (record { report = n; buffer = buffer }) (saved_report w)
saved_is n a buffer w p q = ap (λ (x : SavingReport). record { report = x; buffer = buffer }) p ∙ ap saved_report q

-- a contract over what is given back settles the report and the caches, or the buffer
pub loaded_settles : (r : ReadingReport) (keys values : List Float) (l : Loaded) → loaded_with r keys values ≡ loaded_report l → (r ≡ reading_report l.reading) × (keys ≡ l.keys) × (values ≡ l.values)
loaded_settles r keys values l e = (ap (λ (x : LoadedReport). x.report) e, ap (λ (x : LoadedReport). x.keys) e, ap (λ (x : LoadedReport). x.values) e)

pub saved_settles : (r : SavingReport) (buffer : List ℕ) (w : Written) → ◌≡◌ {A = SavedReport} (record { report = r; buffer = buffer }) (saved_report w) → (r ≡ saving_report w.answer) × (buffer ≡ w.buffer)
saved_settles r buffer w e = (ap (λ (x : SavedReport). x.report) e, ap (λ (x : SavedReport). x.buffer) e)
