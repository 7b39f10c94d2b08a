use Rattle.hs_instance.proofs.restoring.Restoring.copy.Goals as goal

pub returns : goal.returns
returns c = λ db stands. record { is = c.in_ok-copy.ensures db stands.is; sound = stands.sound }
