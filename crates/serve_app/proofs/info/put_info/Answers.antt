-- A prefix of the text of the plan is one of what is known of the script's clip.
use Rattle.std.proofs.Common.{◌≡◌, Err, rules}
use Rattle.serve_app.proofs.OpeningLemmas.{not_read, info_cut}
use Rattle.serve_app.proofs.info.put_info.Goals as goal

pub returns-clause-stop : goal.returns-clause-stop
returns-clause-stop g c = (
  c.in-Err.ensures.failed,
  c.in_ok-opened.ensures.clip,
  info_cut g.K.Sink c.args.out.now c.put.new.self (g.F.Files.world c.args.files.now) c.args.script.now c.in_ok-opened.opened c.in_ok-opened.ensures.means c.in_ok-text.text.items c.in_ok-text.ensures
      (rw c.deref.ensures.value at c.in-Err.ensures.cut),
)

pub returns-in_err-opened-clause-before : goal.returns-in_err-opened-clause-before
returns-in_err-opened-clause-before g c =
    let stop = c.in_err-opened.field-0.0 in
    let is : c.from_residual.result ≡ Err stop = search rules in
    rw is (λ by. c.in_err-opened.ensures.steady (λ e. not_read stop by (let same = e in cc)))
