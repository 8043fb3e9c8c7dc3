mod EveryRun
