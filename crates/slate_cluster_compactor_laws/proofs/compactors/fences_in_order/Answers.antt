use Rattle.slate_cluster_laws.proofs.OpenedEpochs.{epochs_of_run}
use Rattle.slate_cluster_compactor_laws.proofs.Laws.{apart_of_run, fences_of_run, once_of_run, raisers_of_run}
use Rattle.slate_cluster_compactor_laws.proofs.compactors.fences_in_order.Goals as goal

pub returns : goal.returns
returns c = record {
  own = λ specs events n p accepted at. fences_of_run specs events accepted n p at;
  stand = λ specs events n p accepted at. epochs_of_run specs events n p accepted at;
  once = λ specs events db n m epoch accepted has one other. once_of_run specs events accepted db n m epoch has one other;
  apart = λ specs events n m p q c d accepted at_n at_m same has_c has_d epoch. apart_of_run specs events accepted n m p q c d at_n at_m same has_c has_d epoch;
  put = λ specs events db accepted has. raisers_of_run specs events accepted db has;
}
