mod Loops
mod Numbers
mod Wholes
